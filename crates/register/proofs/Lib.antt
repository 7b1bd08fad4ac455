-- The laws of `register`.
pub mod Laws

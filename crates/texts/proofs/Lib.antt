-- The laws of `texts`.
pub mod Laws

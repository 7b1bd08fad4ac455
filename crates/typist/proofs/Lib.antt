-- The laws of `typist`.
pub mod Laws

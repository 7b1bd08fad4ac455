-- The laws of `typing` that others cite.
pub mod Laws

-- The laws of `reel` that others cite.
pub mod Laws
pub mod Unique

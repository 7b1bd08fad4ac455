-- The laws of `cell` that others cite.
pub mod Laws
mod Bits

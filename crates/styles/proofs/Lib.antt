-- The laws of `styles` that others cite.
pub mod Laws

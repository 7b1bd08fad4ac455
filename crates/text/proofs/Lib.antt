-- The laws of `text` that others cite.
pub mod Laws

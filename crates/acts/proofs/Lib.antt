-- The laws of `acts` that others cite.
pub mod Laws

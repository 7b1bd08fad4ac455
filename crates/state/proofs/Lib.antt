-- The laws of `state` that others cite.
pub mod Laws

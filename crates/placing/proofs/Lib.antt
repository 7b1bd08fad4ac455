-- The laws of `placing` that others cite.
pub mod Laws

-- The laws of `replay` that others cite.
pub mod Laws
mod LawsOfReplay

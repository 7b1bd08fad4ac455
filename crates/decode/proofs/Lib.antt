-- The laws of `decode` that others cite.
pub mod Laws
pub mod LawsOfActs

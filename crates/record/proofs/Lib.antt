-- The laws of `record` that others cite.
pub mod Laws
pub mod LawsOfCounts

-- The laws of `page` that others cite.
pub mod Laws
pub mod LawsOfCounts
pub mod Each

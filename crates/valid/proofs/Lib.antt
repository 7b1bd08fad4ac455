-- The laws of `valid` that others cite.
pub mod LawsOfRanges
pub mod Laws
pub mod Rows
mod Clauses
mod Cases

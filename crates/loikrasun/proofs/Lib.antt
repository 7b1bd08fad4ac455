-- The laws that the proofs of the exported functions cite; that no second answer fits, and that number and value are had back from it.
pub mod Laws
pub mod LawsOfValues
pub mod Unique
pub mod Apart

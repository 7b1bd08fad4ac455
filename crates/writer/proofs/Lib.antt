-- The laws that the proofs of `writer` cite, and that no second answer fits its call.
pub mod Laws
pub mod Unique

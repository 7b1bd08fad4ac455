-- What the proofs of `frames` rest on.
pub mod Laws

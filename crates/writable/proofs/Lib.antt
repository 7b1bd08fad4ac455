-- What the proofs of `writable` rest on.
mod LawsOfChecks

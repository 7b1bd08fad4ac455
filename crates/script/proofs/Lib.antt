-- What the proofs of `script` rest on, and its results.
pub mod LawsOfSteps
pub mod LawsOfMake
pub mod LawsOfReached
pub mod Unique
pub mod Results

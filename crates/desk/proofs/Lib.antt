-- The results, that no second answer fits, the paper's examples, and the laws that the calls' proofs cite.
pub mod LawsOfFound
pub mod Laws
pub mod LawsOfRecords
pub mod Unique
pub mod Examples
pub mod Results

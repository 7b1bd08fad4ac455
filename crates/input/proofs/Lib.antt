-- The laws of `input`.
pub mod LawsOfSums
pub mod LawsOfWords

-- The results of `showing`, and what they rest on.
pub mod Results
pub mod LawsOfTakes

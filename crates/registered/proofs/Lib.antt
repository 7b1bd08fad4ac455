-- The results of `registered`, and what they rest on.
pub mod Results
pub mod LawsOfFilm
pub mod LawsOfCues
pub mod LawsOfTurns
pub mod LawsOfSeen
pub mod LawsOfTapes
pub mod LawsOfWritten
pub mod Cases

-- What the proofs of `steps` rest on, and what crates above cite.
pub mod LawsOfHand
pub mod LawsOfCells
pub mod LawsOfPlan
pub mod LawsOfCues
pub mod LawsOfTapes
pub mod LawsOfTimes
pub mod LawsOfChannels
pub mod LawsOfKept
pub mod LawsOfFrames

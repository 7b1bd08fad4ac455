-- The laws of `tape` that others cite, and what they rest on.
pub mod Channels
pub mod LawsOfPairs
pub mod LawsOfLoading
pub mod LawsOfCodes
pub mod LawsOfItems
pub mod LawsOfWritable
pub mod LawsOfRows
pub mod LawsOfTape
pub mod LawsOfSizes
pub mod LawsOfKinds
pub mod LawsOfOther

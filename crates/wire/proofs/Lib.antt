-- The laws of `wire` that others cite, and what they rest on.
pub mod Laws
pub mod LawsOfSent
pub mod LawsOfReel
pub mod Cases
mod Lemmas
mod Tables

-- The laws of `walk` that others cite: what is to come, step by step.
pub mod Stages
pub mod Laws
pub mod LawsOfSteps
pub mod LawsOfReader

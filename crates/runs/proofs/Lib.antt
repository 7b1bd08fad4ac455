-- The laws of `runs` that others cite: equal screens and what they print; what settles a register; small registers; the paper's sentence about runs.
pub mod Laws
pub mod LawsOfInput
pub mod Cases
pub mod Sentence

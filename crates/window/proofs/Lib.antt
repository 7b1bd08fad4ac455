-- The laws of `window` that others cite.
pub mod LawsOfRows
pub mod LawsOfCells

-- The laws of `rollup` that others cite.
pub mod Laws
pub mod LawsOfWindow

-- The definitions of `registered`.
pub mod Turns

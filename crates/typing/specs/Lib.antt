-- The definitions of `typing`.
pub mod Typing

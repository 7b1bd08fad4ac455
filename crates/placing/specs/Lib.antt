-- The definitions of `placing`.
pub mod Placing

-- The definitions of `styles`.
pub mod Styles

-- The definitions of `record`: which byte holds what.
pub mod Layout

-- The definitions of `state`, in reading order: the state and the fresh one, what a style works on, and the ranges.
pub mod State
pub mod Style
pub mod Ranges

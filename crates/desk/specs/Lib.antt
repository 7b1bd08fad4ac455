-- The definitions of `desk`: the paper's numbers for its answers, and the two calls that only look.
pub mod Numbers
pub mod Looks

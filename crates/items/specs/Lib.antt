-- The definitions of `items`: what a function that writes at the front of a lent buffer promises.
pub mod Laid

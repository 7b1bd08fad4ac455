-- The laws of `codes` that others cite, and what they rest on.
pub mod Laws
pub mod Cases
mod Pairs
mod Numbers

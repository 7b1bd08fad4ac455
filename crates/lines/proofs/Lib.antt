-- The laws of `lines` that others cite, and what they rest on.
pub mod Laws
pub mod Printed
mod Lemmas

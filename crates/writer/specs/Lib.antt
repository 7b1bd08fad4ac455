-- The definitions of `writer`: the call with its refusals.
pub mod Write

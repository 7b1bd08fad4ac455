-- The definitions of `showing`: the call take, pair after pair.
pub mod Takes

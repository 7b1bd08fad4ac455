-- The definitions of `rollup`.
pub mod Rollup

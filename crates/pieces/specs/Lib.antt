-- The definitions of `pieces`: the register in pieces.
pub mod Pieces

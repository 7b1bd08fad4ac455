-- The definitions of `replay`: the caption decoder for the theory, and which acts are text.
pub mod Captions
pub mod Text
pub mod Entries

-- The definitions of `tape`, in reading order: the channels, the pairs of an item, the preamble of a row, which screens are writable, the tape of a screen, a programme of screens, and the kinds of pairs.
pub mod Channel
pub mod Item
pub mod Preamble
pub mod Writable
pub mod Tape
pub mod Programme
pub mod Kinds

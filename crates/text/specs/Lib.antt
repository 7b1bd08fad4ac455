-- The definitions of `text`: pairs of text in a row.
pub mod Typed

-- The definitions of `lines`, in reading order: which cells of a row are printed, and the bytes of the register's lines.
pub mod Span
pub mod Line

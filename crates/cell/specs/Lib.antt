-- The definitions of `cell`, in reading order: where a cell stands, its pen, what it may hold, and the cursor.
pub mod Place
pub mod Pen
pub mod Code
pub mod Cursor

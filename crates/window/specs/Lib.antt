-- The definitions of `window`, in reading order: the roll-up window of a memory, and what holds of each cell while it stands.
pub mod Window
pub mod Cells

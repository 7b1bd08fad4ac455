-- The definitions of `page`, in reading order: one memory, and what holds of each cell.
pub mod Page
pub mod Cells

-- The definitions of `input`, in reading order.
pub mod Words
pub mod Sums

-- The definitions of `wire`, in reading order.
pub mod Byte
pub mod Line
pub mod Reel
pub mod Numbers
pub mod Written

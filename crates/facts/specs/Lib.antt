-- The definitions of `facts`, in reading order.
pub mod Choice
pub mod Every
pub mod Over

-- The definitions of `codes`, in reading order.
pub mod Listed
pub mod Rows
pub mod Codes
pub mod Assigned
pub mod Proper

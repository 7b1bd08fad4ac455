-- The definitions of `script`, in reading order: the steps of a script, what they come to one behind the other, and the call.
pub mod Step
pub mod Script
pub mod Make

-- The definitions of `steps`, in reading order: what a step of a script comes to, what may be wrong with it, and what the code has in hand of it.
pub mod Take
pub mod Wrong
pub mod Hand

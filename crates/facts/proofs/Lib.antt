-- The laws of `facts` that others cite.
pub mod Choice
pub mod Every
pub mod Over
pub mod Tail

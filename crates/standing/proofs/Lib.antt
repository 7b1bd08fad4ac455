-- The way to the theorem, the results, and what code cites.
mod Blocks
pub mod Acts
pub mod Desks
pub mod Slots
pub mod Steps
pub mod Runs
pub mod Standing
pub mod Ways
pub mod Within
mod Toys

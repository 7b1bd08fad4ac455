-- The definitions of `decode`, in reading order: the pair rules, the two acts of a desk, what every act keeps, and what a stretch of pairs shows.
pub mod Pair
pub mod Step
pub mod Sound
pub mod Play

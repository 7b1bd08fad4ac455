-- The definitions of `walk`: its stages, and one step of the walk over a reel.
pub mod Stage
pub mod Walk

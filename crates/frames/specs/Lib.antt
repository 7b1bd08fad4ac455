-- The definition of `frames`: raw bytes with frames of nothing before their last pair.
pub mod Held

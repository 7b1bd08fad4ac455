-- The laws of `pieces` that others cite: what is to come, piece by piece.
pub mod Laws

-- The definitions of `acts`.
pub mod Act

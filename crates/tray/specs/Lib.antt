-- The definitions of `tray`: what an act on the three buffers asks and gives.
pub mod Given

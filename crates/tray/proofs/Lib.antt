-- The laws of `tray`.
mod Laws

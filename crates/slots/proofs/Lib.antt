-- The laws of `slots`.
mod Laws

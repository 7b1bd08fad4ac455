-- The definitions of `loikrasun`: how an answer is packed into one number and had back from it, and what stands in the buffers beside it.
pub mod Packed

-- The definitions of `standing`, in reading order: acts, decoders, the calls, runs of calls, and the bytes that standing acts lead to.
pub mod Acts
pub mod Decoder
pub mod Calls
pub mod Runs
pub mod Bytes

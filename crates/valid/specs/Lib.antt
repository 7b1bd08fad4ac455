-- The definitions of `valid`, in reading order: which records are valid, and the same test as the code makes it.
pub mod Valid
pub mod Check

-- The definitions of `runs`, in reading order: the frames of a reel, the runs of their screens, the whole register, and the paper's sentence about runs.
pub mod Frames
pub mod Runs
pub mod Register
pub mod Sentence

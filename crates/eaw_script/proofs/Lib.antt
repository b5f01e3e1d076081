pub mod Performing
pub mod Answering
pub mod WithFrames

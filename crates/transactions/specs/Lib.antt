pub mod Told
pub mod Went
pub mod Tries
pub mod Adds
pub mod Makes

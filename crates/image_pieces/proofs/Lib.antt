mod Putting
pub mod Images

pub mod Told
pub mod Asked
pub mod Formats

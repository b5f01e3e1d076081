pub mod Causing
pub mod Keeping

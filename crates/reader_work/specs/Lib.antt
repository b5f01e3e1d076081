pub mod Reading
pub mod News
pub mod Readership

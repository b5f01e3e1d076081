pub mod Replaying
pub mod Comparing
pub mod Judging

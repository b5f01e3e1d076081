pub mod Answers
pub mod Counts
pub mod Input
pub mod Lines
pub mod Script
pub mod Transcript

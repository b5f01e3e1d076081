mod Telling
pub mod Tabling
pub mod Clearing
pub mod Dumping

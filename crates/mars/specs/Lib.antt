pub mod Choice
pub mod Ending

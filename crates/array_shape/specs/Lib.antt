pub mod Numbers
pub mod Places
pub mod Parts
pub mod Logged
pub mod Areas
pub mod NumberSet

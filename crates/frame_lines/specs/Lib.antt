pub mod Lines
pub mod Taken
pub mod Followed
pub mod Begun
pub mod Framed

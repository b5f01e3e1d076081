pub mod Appending
pub mod Numbers
pub mod Rooms

pub mod Batches
pub mod Book
pub mod Rooms
pub mod Writing
pub mod Shown
pub mod Waiting
pub mod Feeds

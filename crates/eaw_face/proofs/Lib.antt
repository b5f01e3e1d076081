pub mod Others
pub mod Groups
pub mod Mirroring
pub mod Refusing
pub mod Rooms

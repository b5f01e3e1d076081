pub mod Told
pub mod Memory
pub mod Standard
pub mod Turning

pub mod Text
pub mod Slots
pub mod Free
pub mod Super
pub mod IndexHead
pub mod Fresh
pub mod Places
pub mod Names

pub mod Answering
pub mod Reasons
pub mod Unopened
pub mod Windows
pub mod Remaking

pub mod Held
pub mod Calls
pub mod Opens
pub mod Making

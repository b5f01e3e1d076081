pub mod Stops
pub mod Sizing
pub mod Making

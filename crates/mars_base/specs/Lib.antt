pub mod Causes
pub mod Moments
pub mod Costs
pub mod Bytes
pub mod Check
pub mod Room

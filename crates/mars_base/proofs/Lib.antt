pub mod Going
pub mod Costing
pub mod Puts
pub mod Checks
pub mod Rooms

pub mod Kept
pub mod Log
pub mod Plain
pub mod Steps
pub mod Calls
pub mod Fresh
pub mod Shown
pub mod Laws

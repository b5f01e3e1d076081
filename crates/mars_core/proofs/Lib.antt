pub mod Touching
pub mod Idle
pub mod Seating
pub mod Mirroring
pub mod Viewing
mod Named
pub mod Indexing
pub mod Rooming
pub mod Entering
pub mod Prefixes
pub mod Stepping
pub mod Answering
pub mod Saving
pub mod Keeping
mod Causes
mod Staying
pub mod Answered
pub mod Finishing
pub mod Settling
pub mod Grouping
pub mod Together
pub mod Opening
pub mod Attaching
pub mod Showing
pub mod Unwritten
pub mod Clearing
pub mod Passing
pub mod Naming
pub mod Purged
pub mod Tabled
pub mod GivingUp
pub mod Quiet

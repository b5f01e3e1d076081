pub mod Statuses
pub mod Fault
pub mod Input
pub mod Outcome
pub mod Opening
pub mod Forms
pub mod Records
pub mod Untaken

pub mod Commits
pub mod Rows
pub mod Costs
pub mod Places

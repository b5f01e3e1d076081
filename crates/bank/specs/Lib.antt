pub mod Accounts
pub mod Moves

pub mod Joined
pub mod Image
pub mod Decided
pub mod Standing
pub mod Votes

pub mod Asks
pub mod Drafts
pub mod Plans

pub mod LineLemmas
pub mod Running

pub mod Chain
pub mod Changes
pub mod Linked
pub mod Along
pub mod Index
pub mod Located
pub mod Checked
pub mod Tried
-- lemmas that the laws of the index cite
pub mod Seen
pub mod Props
pub mod ChainFacts
pub mod Resting
pub mod Fresh
pub mod Extending
pub mod Finds

pub mod Tree
pub mod Descent
pub mod Changes
pub mod Removals
-- lemmas that the laws of the index cite
pub mod Sound
pub mod TreeFacts
pub mod Frames
pub mod Resting

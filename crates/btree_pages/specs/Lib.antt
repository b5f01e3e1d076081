pub mod Index
pub mod Node
pub mod Leaf
pub mod Start
pub mod Downward
pub mod OnWay
pub mod Writes
pub mod Steps
pub mod May
pub mod Crowded
pub mod Checked
pub mod Testing
-- lemmas that the laws of the index cite
pub mod Props
pub mod Trees

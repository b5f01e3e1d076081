pub mod Tables
pub mod Joint
pub mod Sharing
pub mod SlotParts
pub mod Looking
pub mod Writing
pub mod States
pub mod Seeking
pub mod SeekCosts
pub mod Moving
pub mod Wrote
pub mod Doing
pub mod Ending
pub mod Grouping
pub mod Putting
pub mod Rooted
pub mod RowsOf
pub mod Gathering
mod AllRows
mod ByName
pub mod Holding
pub mod Fronts
pub mod Main
pub mod Upgraded
pub mod Versions
pub mod Following
pub mod Lost
pub mod Removed
pub mod Extended
pub mod Made
pub mod KeptNames
pub mod Hearing
mod Erasing
pub mod Blaming
pub mod Counting
pub mod Walking

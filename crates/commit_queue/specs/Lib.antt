pub mod Queue
pub mod Between
pub mod Deferred
pub mod Rows

pub mod Pieces
pub mod Putting
pub mod Records
pub mod Rows
pub mod Seeing
pub mod Spelling
pub mod Telling
pub mod Undoing

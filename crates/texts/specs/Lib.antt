pub mod MediaFault
pub mod Pieces
pub mod Reads
pub mod Written

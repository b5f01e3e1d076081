pub mod Boxes
pub mod Moving

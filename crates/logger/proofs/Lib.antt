pub mod Rows
pub mod Cells
pub mod Heading
pub mod Ranges
pub mod Staging
pub mod Applying
pub mod Dealing

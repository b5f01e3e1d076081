pub mod Cells
pub mod Staging

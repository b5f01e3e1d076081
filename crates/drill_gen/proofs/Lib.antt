pub mod Values
pub mod Drawing

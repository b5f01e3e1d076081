pub mod Cutting
pub mod WriteParts
pub mod Apart
pub mod Sets

pub mod Ring
pub mod Going
pub mod Staying
pub mod Missing

pub mod Queue
pub mod Along

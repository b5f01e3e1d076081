pub mod Sums
pub mod Moving
pub mod Paying
pub mod Refusing

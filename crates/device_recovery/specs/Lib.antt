pub mod Table
pub mod Recovered

pub mod CommandLine
pub mod Asked
pub mod Usual
pub mod Restore

pub mod Dump
pub mod Causes
pub mod Keyed
pub mod Gathering
pub mod Taking
pub mod Again

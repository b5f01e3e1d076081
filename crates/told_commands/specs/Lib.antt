pub mod Told
pub mod Tables
pub mod Purge
pub mod Dump

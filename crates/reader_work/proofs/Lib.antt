pub mod Publishing
pub mod Answering
pub mod Onlooking

pub mod Said
pub mod Ballots
pub mod Written
pub mod Header

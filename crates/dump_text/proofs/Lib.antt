mod Lines
mod Rising
mod Gathering
pub mod Taken
mod OneLine
mod ReadAgain

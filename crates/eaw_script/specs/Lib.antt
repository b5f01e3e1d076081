pub mod Tests
pub mod Answers
pub mod Progress
pub mod Lines
pub mod Performed
pub mod Laws
pub mod Mirrored

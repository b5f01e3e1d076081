pub mod Saying
pub mod Heading
pub mod OneShape

mod InTurn
pub mod Shapes
pub mod OneAsked
mod AskedLemmas
mod ReadLemmas
mod RestoreLemmas
mod UsualWords

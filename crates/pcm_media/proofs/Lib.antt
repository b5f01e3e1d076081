pub mod Left
pub mod Ranges
pub mod Writing
mod Replay
mod MemoryLemmas
mod ChoiceLemmas
mod CallLemmas
mod FusedLemmas
mod Promised

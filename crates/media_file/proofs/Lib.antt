mod CountLemmas
mod ServeLemmas
mod ReadLemmas
mod WriteLemmas
mod FillLemmas
mod ShowLemmas
mod TakeLemmas
mod Keeping

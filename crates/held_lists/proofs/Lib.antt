pub mod SetLemmas
pub mod TakeLemmas
pub mod WalkLemmas
pub mod RunLemmas

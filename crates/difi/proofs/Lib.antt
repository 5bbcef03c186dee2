pub mod PlaceLemmas
pub mod Verdicts
pub mod TestLemmas
pub mod SoundLemmas
pub mod CompleteLemmas
pub mod KeptLemmas

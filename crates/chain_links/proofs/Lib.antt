pub mod AlterLemmas
pub mod WordLemmas
pub mod LinkLemmas
pub mod CutLemmas
pub mod TakeLemmas

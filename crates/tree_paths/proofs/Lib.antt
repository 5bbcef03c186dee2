pub mod DescentLemmas
pub mod CauseLemmas
pub mod ChildLemmas
pub mod TreeLemmas

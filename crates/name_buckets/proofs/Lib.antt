pub mod LookLemmas
pub mod FindLemmas
pub mod FreeLemmas
pub mod HeldLemmas
pub mod ChildLemmas

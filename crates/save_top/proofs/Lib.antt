pub mod Orders
pub mod Blocks
pub mod FillLemmas
pub mod PlaceLemmas
pub mod PeekLemmas
pub mod RunLemmas

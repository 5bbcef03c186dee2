pub mod PartLemmas
pub mod AboveLemmas
pub mod UnderLemmas
pub mod EndLemmas
pub mod SealLemmas
pub mod PatchLemmas

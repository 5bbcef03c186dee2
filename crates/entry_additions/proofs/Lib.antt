pub mod AddLemmas
pub mod AddedLemmas
pub mod BytesLemmas
pub mod ImageLemmas
pub mod PlanLemmas
pub mod PutLemmas
pub mod TakingLemmas

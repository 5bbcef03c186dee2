pub mod PlanLemmas
pub mod ReadyLemmas
pub mod SwapLemmas
pub mod AnswerLemmas
pub mod PlanRunLemmas
pub mod PlanPlaceLemmas
pub mod SameLemmas

pub mod TakenLemmas
pub mod HeaderLemmas

pub mod Telling
pub mod RowLemmas

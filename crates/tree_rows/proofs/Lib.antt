pub mod PathLemmas
pub mod InsertLemmas
pub mod OrderLemmas
pub mod RowLemmas

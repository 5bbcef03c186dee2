pub mod MountLemmas
pub mod ListLemmas
pub mod LookupLemmas
pub mod LaterLemmas
pub mod GetLemmas
pub mod ReadLemmas
pub mod TreeLaterLemmas
pub mod NamedLemmas

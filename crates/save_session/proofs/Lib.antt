pub mod SayingLemmas
pub mod StoreLemmas

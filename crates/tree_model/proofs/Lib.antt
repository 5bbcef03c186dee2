pub mod NumberLemmas
pub mod WordLemmas
pub mod CommandLemmas
pub mod TranscriptLemmas
pub mod PrintLemmas

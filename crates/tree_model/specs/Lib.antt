pub mod Lines
pub mod Trees
pub mod Listings
pub mod Answers
pub mod Commands
pub mod CommandReading
pub mod Transcripts

pub mod Removed
pub mod Lacks
pub mod Lists
pub mod EntryWords
pub mod Plans
pub mod Bytes

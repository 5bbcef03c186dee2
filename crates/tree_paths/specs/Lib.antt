pub mod Standings
pub mod Causes

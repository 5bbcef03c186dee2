pub mod Table
pub mod Chains
pub mod Faults
pub mod Runs
pub mod Between
pub mod Edits

pub mod Mounted
pub mod Faults
pub mod Gets

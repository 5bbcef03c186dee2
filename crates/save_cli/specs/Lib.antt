pub mod Complaint
pub mod Signing

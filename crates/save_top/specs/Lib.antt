pub mod Words
pub mod Texts
pub mod Output
pub mod Replies
pub mod Peeks
pub mod Failures

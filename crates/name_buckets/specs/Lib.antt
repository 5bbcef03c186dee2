pub mod Replies
pub mod Looks
pub mod Held
pub mod Untold

pub mod Listed
pub mod Owned
pub mod Read
pub mod Reading
pub mod Placed

pub mod Added
pub mod Gains
pub mod Images
pub mod Puts
pub mod Additions
pub mod Results

pub mod HeaderBytes
pub mod FirstFailing
pub mod Soundness
pub mod HeaderRead
pub mod Flips

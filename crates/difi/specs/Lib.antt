pub mod Places
pub mod Fields
pub mod Conditions
pub mod Sound
pub mod Contents

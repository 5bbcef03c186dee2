pub mod Fields
pub mod Conditions
pub mod Sound
pub mod Raw

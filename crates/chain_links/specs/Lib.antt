pub mod Alters

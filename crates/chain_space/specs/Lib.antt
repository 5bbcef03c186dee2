pub mod Bounded
pub mod Walks
pub mod Shown
pub mod ShownLaws
pub mod Behind
pub mod Laid
pub mod LaidLaws
pub mod LaidHeld

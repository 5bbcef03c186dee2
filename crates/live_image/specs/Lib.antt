pub mod Live
pub mod Same
pub mod Footprint
pub mod StopRows

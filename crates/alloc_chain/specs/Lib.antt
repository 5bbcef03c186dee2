pub mod Held
pub mod Plans
pub mod Swaps
pub mod PlanRuns
pub mod PlanPlaces

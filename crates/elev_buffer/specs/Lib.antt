pub mod Step
pub mod Covers
pub mod Slots
pub mod Sums

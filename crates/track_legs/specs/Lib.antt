pub mod Tracks
pub mod Rows
pub mod Costs
pub mod Steps
pub mod Sums

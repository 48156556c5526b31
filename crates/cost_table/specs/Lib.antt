pub mod Endless
pub mod Costs
pub mod Waiting
pub mod Found
pub mod Reaches

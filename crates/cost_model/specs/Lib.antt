pub mod Facts
pub mod OpenLinks
pub mod Prices
pub mod Parts
pub mod Walks
pub mod Modes
pub mod Labels
pub mod Rides

pub mod Orders
pub mod Orderings

pub mod Hierarchies
pub mod Guides

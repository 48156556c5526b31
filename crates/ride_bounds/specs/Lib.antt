pub mod Turns
pub mod Entries
pub mod Arcs
pub mod Hierarchies
pub mod Customizing
pub mod Bounds
pub mod Guides

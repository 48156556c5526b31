pub mod Relief
pub mod Name
pub mod File
pub mod Height
pub mod Tiles

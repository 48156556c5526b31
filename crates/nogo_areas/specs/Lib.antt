pub mod Cuts
pub mod Cuttings
pub mod Sides
pub mod Fences

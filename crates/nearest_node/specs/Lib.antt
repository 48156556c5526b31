pub mod Nearest
pub mod Index
pub mod Best

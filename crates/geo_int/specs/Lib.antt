pub mod Place
pub mod Spot
pub mod Root
pub mod Cosine
pub mod Arrow
pub mod Turn
pub mod Circle
pub mod Texts

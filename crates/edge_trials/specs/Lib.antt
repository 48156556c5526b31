pub mod Heard
pub mod Told

pub mod Asks
pub mod Entries
pub mod Index
pub mod Closing
pub mod Legs
pub mod Verdicts
pub mod Certified
pub mod Provings

pub mod Draft
pub mod Held
pub mod Kept
pub mod Rows

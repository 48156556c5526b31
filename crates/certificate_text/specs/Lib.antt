pub mod Lines
pub mod Texts
pub mod Parts
pub mod Drafts

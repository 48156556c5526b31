pub mod Checked
pub mod Context
pub mod Effects
pub mod Lines
pub mod Overrides
pub mod Refusal
pub mod Subject

pub mod Answer
pub mod Appended
pub mod Bytes
pub mod Pages
pub mod Turns

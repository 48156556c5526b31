pub mod Evaluated
pub mod Scope
pub mod Vars

pub mod Arithmetic
pub mod Coordinate
pub mod Decimal
pub mod Literal
pub mod Number
pub mod Text

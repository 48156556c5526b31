pub mod Ends
pub mod Given
pub mod Prices
pub mod Signs
pub mod Strip
pub mod StripLaws
pub mod Tariffs

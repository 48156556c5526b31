pub mod Due
pub mod DueLaws
pub mod Line
pub mod LineLaws
pub mod LineSpace
pub mod Toll
pub mod TollLaws

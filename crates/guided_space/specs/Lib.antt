pub mod Guided

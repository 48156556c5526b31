pub mod Quests
pub mod Steps
pub mod Anew

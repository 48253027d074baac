pub mod Settings
pub mod Outcomes
pub mod Work
pub mod Searchers
pub mod Rounds

pub mod Ends
pub mod Runs
pub mod Searches
pub mod Steps

pub mod Visits
pub mod Walks
pub mod Lists
pub mod Rows
pub mod Runs
pub mod Loops

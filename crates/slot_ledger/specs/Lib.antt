pub mod Starts
pub mod Passes
pub mod Beside
pub mod Shared

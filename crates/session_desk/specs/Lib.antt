pub mod Answered
pub mod Passed
pub mod Sessions
pub mod Served
pub mod Begun
pub mod Stopped
pub mod Seen
pub mod Private

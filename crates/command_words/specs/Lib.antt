pub mod Words
pub mod Uses
pub mod Values
pub mod Jobs
pub mod Faults
pub mod App
pub mod Answers

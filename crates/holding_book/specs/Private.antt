-- What contracts of private functions alone cite: what a book keeps, and what is made ready for an
-- ask.
pub mod Uses
pub mod Loads
pub mod Trials
pub mod Places
pub mod Kept
pub mod Changes
pub mod Steps
pub mod Ready
pub mod Given
pub mod Found
pub mod Levels

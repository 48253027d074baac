pub mod Fixings
pub mod Loops

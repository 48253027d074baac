pub mod Decisions
pub mod Tallies
pub mod Reasons
pub mod Rows
pub mod Reports
pub mod Laws
pub mod Private

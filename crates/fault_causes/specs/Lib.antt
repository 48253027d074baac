pub mod Causes
pub mod Forms
pub mod Capacities
pub mod Requests
pub mod Standings

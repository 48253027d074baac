pub mod Dates
pub mod Term
pub mod Seasons
pub mod Periods
pub mod Capacity
pub mod Texts

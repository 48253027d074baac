pub mod Tables
pub mod Strips
pub mod Totals
pub mod Loops
pub mod Private

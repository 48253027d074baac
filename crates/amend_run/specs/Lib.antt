pub mod Amended
pub mod Private

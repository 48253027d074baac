pub mod Words
pub mod Heads
pub mod Peaks
pub mod Private

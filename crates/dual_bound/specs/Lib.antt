pub mod Stated
pub mod Loops
pub mod Kept
pub mod Same
pub mod Ends
pub mod Covers
pub mod Classes
pub mod KeptFloors

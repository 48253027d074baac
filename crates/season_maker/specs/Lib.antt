pub mod Draws
pub mod Generated
pub mod Texts
pub mod Loops

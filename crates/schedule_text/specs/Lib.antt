pub mod Kinds
pub mod Times
pub mod Days
pub mod Bits

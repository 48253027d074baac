pub mod Format
pub mod Standing
pub mod Durable
pub mod Faults
pub mod Private
pub mod Told
pub mod Kept

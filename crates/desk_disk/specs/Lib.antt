pub mod Disks
pub mod Stops
pub mod Noted
pub mod DisksInMemory

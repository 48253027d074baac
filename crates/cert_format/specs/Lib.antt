pub mod Lines
pub mod Spelling
pub mod Printable
pub mod Forms
pub mod Choices
pub mod Proofs
pub mod Private

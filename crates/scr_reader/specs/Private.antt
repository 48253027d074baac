-- What contracts of private functions alone cite: forms of the code that reads fields, lines and
-- texts.
pub mod Texts
pub mod FieldForms
pub mod Readings
pub mod Pairing
pub mod Decided

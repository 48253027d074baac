-- What contracts of private functions alone cite: the reader, line by line, and the numbers that
-- printing sees.
pub mod Cuts
pub mod Left
pub mod Words
pub mod Rows
pub mod Spots
pub mod Reading
pub mod Ranges

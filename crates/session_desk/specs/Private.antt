-- What contracts of private functions alone cite: forms of the code that reads byte by byte.
pub mod Laws
pub mod Held
pub mod Reading
pub mod Serving
pub mod Amended

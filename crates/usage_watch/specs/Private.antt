-- What contracts of private functions alone cite: what a reader has read so far, and which days are
-- marked for each flight.
pub mod Reading
pub mod Marks

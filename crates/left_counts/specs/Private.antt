-- What contracts of private functions alone cite: the marks that are kept beside the counts.
pub mod Marks

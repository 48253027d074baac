pub mod History
pub mod Seats
pub mod Views
pub mod Rule
pub mod Plays
pub mod Inside

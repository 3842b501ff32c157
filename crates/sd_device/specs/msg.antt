pub mod Stamps
pub mod Observed
pub mod Books
pub mod Marks
pub mod Spent
pub mod BookView
pub mod Observing
pub mod KeptView

pub mod Ratings
pub mod Finds

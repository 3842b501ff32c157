pub mod Words
pub mod Headlines
pub mod Kinds
pub mod Works
pub mod Runs
pub mod order

pub mod Names
pub mod Entries
pub mod Sound
pub mod Trees
pub mod Meant
pub mod Printing
pub mod ReadBack
mod Samples

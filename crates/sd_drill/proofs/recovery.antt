mod Reached
mod Rows
mod Hearing
mod Leading
pub mod Searching
pub mod Sparing
pub mod Existing

pub mod Changes
pub mod Slots
pub mod Shutting
pub mod Keeping
pub mod Answers

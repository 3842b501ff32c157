pub mod Sized
pub mod Judging
pub mod Driven
pub mod Histories
pub mod Lawful

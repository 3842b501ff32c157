-- Laws of what is kept, then of what is seen, and of the two together.
pub mod Judging
pub mod Sending
pub mod InOrder
pub mod Marks
pub mod Waits
pub mod Spoiled
pub mod Consecutive
pub mod Observing

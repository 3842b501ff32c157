-- The flights of a history: which of them are on their way after accepted steps. No function here
-- has a body: this crate has definitions (specs/) and proofs (proofs/) alone.
-- Laws of the flights of accepted steps.
pub mod Finds
pub mod Sending
pub mod Numbers
pub mod Looks
pub mod Leaving
pub mod Booking
pub mod Places
pub mod Counts

-- Runs in which nothing fails any more.
pub mod Settled

-- References beside counters, what waits are over, and what stays within an entry.
pub mod Times
pub mod Dues
pub mod Since

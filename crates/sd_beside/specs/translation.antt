-- The definitions, in reading order.
pub mod Counters
pub mod Times
pub mod Moves
pub mod Laws

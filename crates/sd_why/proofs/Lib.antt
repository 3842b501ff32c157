pub mod Joining
mod Neighbours
mod Rings
mod Periods
mod Counting
mod Searches
mod BridgeCounts
mod Needed
mod Judging
mod Words
pub mod Laws

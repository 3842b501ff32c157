pub mod Versions
mod Chained
mod Chosen
pub mod Closed
mod Following
mod Joining
mod Spreading
mod Turning
mod Walked
pub mod Unique
pub mod Shared

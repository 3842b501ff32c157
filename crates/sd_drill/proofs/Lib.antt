pub mod Circles
mod Ways
mod Listing
pub mod Made
pub mod Unique
pub mod Versions
pub mod Shared

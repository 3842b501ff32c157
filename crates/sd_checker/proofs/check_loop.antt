pub mod Versions
pub mod Ranks
mod Markers
mod Searching
mod Places
mod Listed
mod Unhit
mod Hops
mod Least
mod Judging
mod Trailing
mod Answering
pub mod Unique
pub mod Shared

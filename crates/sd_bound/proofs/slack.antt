mod Numbers
mod Waits
mod Alike
mod Matching
pub mod Accepted
mod Sums
mod Ages
mod Walks
pub mod Bounded
mod Rows

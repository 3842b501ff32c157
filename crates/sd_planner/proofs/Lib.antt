-- How devices are placed, then backups, waits and the plan.
mod Flags
mod Over
mod Turned
pub mod Adjacency
pub mod Lists
pub mod Walks
pub mod Rings
pub mod Places
pub mod Queue
pub mod Turning
pub mod Sweeping
pub mod Ringwise
pub mod SpreadGrowing
pub mod Firsts
pub mod Elements
mod Finding
mod Sets
mod Waiters
pub mod Growing
mod Steps
pub mod Versions
mod Members
mod Setting
mod Trees
mod Leading
mod Listing
mod Walking
mod FoundDevices
mod Joining
mod Serving
mod FirstHops
mod Adding
mod Near
mod Within
mod ByBackupRoot
mod Rowing
mod RowFitting
mod Least
mod Bounds
mod Rows
mod Fitting
pub mod Single

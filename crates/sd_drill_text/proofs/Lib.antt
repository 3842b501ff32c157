pub mod Prefixes
pub mod Ranges
mod Names
pub mod Membership
pub mod Commands
pub mod Existing

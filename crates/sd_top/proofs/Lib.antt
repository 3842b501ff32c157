pub mod Kept
pub mod Cases
pub mod Bounds
pub mod Wording
pub mod Serving
pub mod Staying
pub mod Planned
pub mod Performing
pub mod Holding
pub mod Within
pub mod Headlines
pub mod Migrating
pub mod Unique
mod Judged
mod SamePlans
mod Slack
pub mod Lawful
pub mod Alone
pub mod Bounding

pub mod Versions
mod Above
mod Breaches
pub mod DomainOrder
mod Lines
mod Outages
pub mod Exclusive
pub mod Unique
pub mod Shared

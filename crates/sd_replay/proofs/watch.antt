pub mod Following
pub mod Within
pub mod Settling
pub mod Marking
pub mod Acting
pub mod Changed
pub mod Counted
pub mod Shared

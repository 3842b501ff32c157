pub mod Worlds
pub mod Following
pub mod Asking
pub mod Judging
pub mod Stepping

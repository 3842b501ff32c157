pub mod Loading
pub mod Keeping
pub mod Shared
pub mod Single

pub mod Shared
pub mod Texts
pub mod Schedules
pub mod Values
pub mod Witnesses
pub mod mended
pub mod after_renewal
pub mod straggler

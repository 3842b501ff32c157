-- Devices and plans as a fabric keeps them, and for which steps they stand.
pub mod Plans
pub mod Memberships
pub mod Counts
pub mod MembershipView
pub mod Standing

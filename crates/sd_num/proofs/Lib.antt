mod Rows
pub mod Drift
pub mod Digits
pub mod Places
pub mod Ascending
pub mod Firsts
pub mod Runs
pub mod Shared
pub mod Distinct

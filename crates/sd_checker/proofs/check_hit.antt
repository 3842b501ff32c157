mod Bounds
mod Counting
mod Covered
mod Cut
mod Hits
mod Law
mod Merged
mod Picked
pub mod HitList

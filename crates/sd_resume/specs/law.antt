-- The definitions, in reading order.
pub mod Shifts
pub mod Likeness
pub mod Views
pub mod Agreement
pub mod Law
pub mod Cuts
pub mod Premised
pub mod Losses
pub mod Composed
pub mod Worked

-- How far epochs reach, and what commits and closings take of the invariant.
pub mod Reaching
pub mod Standing

pub mod Roots
pub mod Timing
pub mod Parts
pub mod Inequalities

-- How long devices are silent at most.
pub mod Sums

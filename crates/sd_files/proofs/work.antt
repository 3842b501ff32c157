pub mod Stepping
pub mod Writing
pub mod Reading
pub mod Whole
pub mod Coming
pub mod Adding
pub mod Leaving
pub mod Front

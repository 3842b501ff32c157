pub mod Loops
pub mod ShownCycles
pub mod Answered
pub mod Graphs
pub mod Markings
pub mod Shown
pub mod Trails

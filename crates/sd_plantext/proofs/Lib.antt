pub mod Versions
pub mod Sound
pub mod Rows
pub mod Trees
pub mod Newline
pub mod Listed
pub mod Escapes
pub mod Shown
pub mod Shape
pub mod Filled
pub mod ReadBack
mod Samples

pub mod Accepted
pub mod Standing
pub mod Contained
pub mod Known
mod Rows

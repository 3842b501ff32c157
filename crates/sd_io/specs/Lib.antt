pub mod outside
pub mod stream

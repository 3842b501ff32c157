-- The third witness: what its texts mean, and the loop at the end of its history.
mod Read
pub mod Looped

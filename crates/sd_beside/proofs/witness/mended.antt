-- The second witness: what its texts mean, and what happens in its history.
pub mod Read
pub mod Mended

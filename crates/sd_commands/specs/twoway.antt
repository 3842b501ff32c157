pub mod Judged
pub mod Twoways
pub mod Promises
pub mod Tallies
pub mod Doing

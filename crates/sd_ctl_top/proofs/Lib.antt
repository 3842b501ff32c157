pub mod Judged
pub mod Makes
pub mod Meeting
pub mod Openings
pub mod Reasoned
pub mod Recordings
pub mod Served
pub mod Settings

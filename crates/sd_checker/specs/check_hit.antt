pub mod Hit
pub mod Spans
pub mod Outages
pub mod Places

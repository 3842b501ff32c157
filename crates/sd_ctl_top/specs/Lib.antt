pub mod Words
pub mod Parsed
pub mod Findings
pub mod Reasons
pub mod Bounded
pub mod Promise
pub mod bounding

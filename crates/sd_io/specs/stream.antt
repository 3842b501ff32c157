pub mod Lines
pub mod Next
pub mod Limits
pub mod Findings
pub mod Buffered
pub mod Reader
pub mod Windows

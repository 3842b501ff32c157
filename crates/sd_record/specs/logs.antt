-- What lines of logs say.
pub mod Entries
pub mod Then
pub mod Lines
pub mod Reasons

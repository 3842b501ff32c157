pub mod Plain
pub mod Faults
pub mod Owed
pub mod Answers
pub mod Ports
pub mod Pauses
pub mod Crc
pub mod Kept

pub mod Owing
pub mod Waiting
pub mod Lowering
pub mod Pausing
pub mod Bytes
pub mod Checksum
pub mod Saying

pub mod Watch
pub mod Settled
pub mod parent_table

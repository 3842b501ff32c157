mod Rows
pub mod Ends

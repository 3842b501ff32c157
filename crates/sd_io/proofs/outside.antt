pub mod Files
pub mod Reasons
pub mod Written
pub mod Cutting
pub mod Printing
pub mod Adding

pub mod Words
pub mod Complaints
pub mod Endings

pub mod Numbered
pub mod Finding
pub mod Places
pub mod Filters
pub mod Growing
pub mod Books

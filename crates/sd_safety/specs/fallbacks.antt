-- What is left of what the backup root hears.
pub mod Moved

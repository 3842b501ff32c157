-- Before a commit, and after one of the backup root.
pub mod Entering
pub mod Leading

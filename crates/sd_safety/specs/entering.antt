-- The time after a commit.
pub mod After

-- Plans that can be followed, one after another.
pub mod Followed

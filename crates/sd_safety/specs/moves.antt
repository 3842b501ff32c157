-- What is shown of seals and of silences at most.
pub mod Wanted

mod Rows
pub mod Steps
pub mod Fitting
pub mod Numbered
pub mod Rules
pub mod Walking
mod Over
mod Joined
mod Whole
pub mod TableLaws
pub mod Forest
pub mod CutOff
pub mod Cutting
mod Subtrees
mod Times
mod Below
pub mod Listing
mod Indexing
pub mod Shared

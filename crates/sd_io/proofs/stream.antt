pub mod LineLaws
pub mod AnswerLaws
pub mod Windows
mod Found
mod Judged
mod Ranges
mod Left
mod Counted

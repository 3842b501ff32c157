mod Members
mod Marks
mod Things
mod Listed
mod Alone
pub mod Within
mod Rows
mod Adding
mod Failed

pub mod Rows
pub mod Keeping
pub mod Rising
pub mod Below
pub mod Ends
pub mod Worsts
pub mod Standing
pub mod Texts

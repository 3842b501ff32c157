-- The definitions, in reading order.
pub mod Parts
pub mod Played
pub mod Opened
pub mod Behind
pub mod Printed
pub mod Compared
pub mod Resumes

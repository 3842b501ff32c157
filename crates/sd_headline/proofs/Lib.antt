mod Rows
pub mod Prefixes
pub mod Behind
pub mod Texts
pub mod Numbers
pub mod Names
pub mod Quiet
pub mod Premises
pub mod Printed
pub mod Waiting
pub mod Reading
pub mod Carried
pub mod Sentences
pub mod Cases
pub mod Refused
pub mod Left
pub mod Runs
pub mod order

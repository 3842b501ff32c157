pub mod Numbers
pub mod Decimals
pub mod Digits
pub mod Lists
pub mod Counts
pub mod Texts
pub mod clock

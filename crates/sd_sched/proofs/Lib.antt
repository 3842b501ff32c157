mod Rows
pub mod Cuts
pub mod Decimals
pub mod Joined
pub mod Join
pub mod ByWord
pub mod First
pub mod Prefix
pub mod ByLine
pub mod DigitWords
pub mod InPlace
pub mod Fronts
pub mod ReadBack

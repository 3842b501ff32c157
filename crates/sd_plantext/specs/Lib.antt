pub mod Keys
pub mod Gives
pub mod Then
pub mod Meaning
pub mod Reading
pub mod Counted
pub mod Printed
pub mod PrintedTree

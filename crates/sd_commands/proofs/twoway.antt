pub mod Standing
pub mod Written
pub mod Printing
pub mod Bounding

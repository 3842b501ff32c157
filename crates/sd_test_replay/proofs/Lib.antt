-- Lists of accepted plans, one after another.
pub mod Longer

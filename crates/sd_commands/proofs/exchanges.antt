mod Rows
pub mod Covering
pub mod Joint
pub mod Clauses
pub mod Joining
pub mod Fieldwise

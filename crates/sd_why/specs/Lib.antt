pub mod Plans
pub mod Ways
pub mod Bridges
pub mod Rings
pub mod Kinds
pub mod Reasons
pub mod Text

pub mod membership
pub mod world

pub mod Consequences
pub mod Alone
pub mod Loops
pub mod Reaches
pub mod Roots

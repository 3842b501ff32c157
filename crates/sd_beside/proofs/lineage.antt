-- That lineages are kept, and what follows.
pub mod Tracing
pub mod Contains
pub mod Honest
pub mod Orders

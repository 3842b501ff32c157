pub mod Walks
pub mod Reaches
pub mod Recoveries
pub mod Hops
pub mod Feeding
pub mod Searches

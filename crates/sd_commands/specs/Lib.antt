pub mod exchanges
pub mod replay
pub mod solo
pub mod twoway

-- The schedule of a generated case, and for which draft of it a driver stands.
pub mod Listed
pub mod Drafts
pub mod Schedules
pub mod Turns
pub mod Posting
pub mod Driving
pub mod Recording
pub mod Receiving
pub mod Standing
pub mod arrivals
pub mod fabric
pub mod command

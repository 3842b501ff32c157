-- Laws of the structures, for their own calls and for whoever keeps them.
pub mod Joining
pub mod LongRuns
pub mod Listing
pub mod InOrder

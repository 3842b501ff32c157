-- The fourth witness: after a renewal the root fails, the backup root takes over, and all hear again.
pub mod Values
pub mod Witness

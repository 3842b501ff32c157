-- The words of the safety proof and its statements, in reading order.
pub mod Bounds
pub mod Eras
pub mod Clauses
pub mod Invariant
pub mod Guarded
pub mod Coming
pub mod Silences
pub mod Kept

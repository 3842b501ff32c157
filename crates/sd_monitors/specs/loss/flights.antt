-- The words of each structure: what its fields stand for, and what is seen of it.
pub mod Kept
pub mod Runs
pub mod RunsKept
pub mod RunsView
pub mod OrderlyKept
pub mod OrderlyView
pub mod UnorderedKept
pub mod UnorderedView
pub mod WaitingKept
pub mod WaitingView
pub mod Interrupted
pub mod InterruptionsView

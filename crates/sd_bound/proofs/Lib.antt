-- The bound from its two halves.
pub mod Composing
pub mod Bounded
pub mod Calm
pub mod Hearing
pub mod Closing
pub mod Entered
pub mod Renewed
pub mod RenewedBound
pub mod ages
pub mod bases
pub mod chains
pub mod histories
pub mod rebased
pub mod timeouts
pub mod traces

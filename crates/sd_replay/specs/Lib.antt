-- For which runs a replay stands, and what is promised of every history. In reading order.
pub mod Tallies
pub mod Promises
pub mod Counting
pub mod Troubles
pub mod Sights
pub mod Standing
pub mod Calm
pub mod Replaying
pub mod FleetFaults
pub mod Devices
pub mod lines
pub mod wait
pub mod watch

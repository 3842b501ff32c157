-- The definitions, in reading order.
pub mod Numbers
pub mod Duties
pub mod Devices
pub mod Worlds
pub mod Fleets
pub mod Messages
pub mod Differences
pub mod Told
pub mod Honesty
pub mod command
pub mod law

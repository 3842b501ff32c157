-- What may be seen, and for which lists the monitors stand.
pub mod Order
pub mod Worlds
pub mod Standing
pub mod Breaking
pub mod Calm

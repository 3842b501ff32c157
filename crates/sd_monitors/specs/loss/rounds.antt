-- The definitions, in reading order.
pub mod Order
pub mod Loss
pub mod Standing

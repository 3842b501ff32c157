-- Messages that wait for their receipt.
pub mod Waiting
pub mod Left
pub mod Order
pub mod Standing

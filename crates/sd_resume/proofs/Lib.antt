-- The laws, in reading order.
pub mod Known
pub mod Raising
pub mod Normal
pub mod Alike
pub mod Apart
pub mod Sending
pub mod Opening
pub mod Told
pub mod Never
pub mod Honest

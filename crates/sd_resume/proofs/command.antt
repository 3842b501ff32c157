-- The lemmas, in reading order.
pub mod Takings
pub mod Reaching
pub mod Agreed
pub mod Afterwards

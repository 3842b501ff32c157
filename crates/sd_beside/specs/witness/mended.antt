-- The second witness: a link fails, the device below it moves, and a renewal mends the link and lets a device join.
pub mod Texts
pub mod Values
pub mod Witness

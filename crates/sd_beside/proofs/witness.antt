-- The witnesses: texts that mean a network, plans and a history, which meet all that safety and the recovery bound ask for.
pub mod Accepting
mod Greatest
mod Meant
pub mod Histories
mod Read
pub mod Renewed
pub mod Recovered
pub mod mended
pub mod after_renewal
pub mod straggler

-- Moments, traces, the order of stamps, and rounds on their way.
pub mod Hops
pub mod Moments
pub mod Traces
pub mod Rounds
pub mod Stamping

-- Chains from a device that acts.
pub mod Chains

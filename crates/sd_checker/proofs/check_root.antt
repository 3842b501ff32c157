mod Firsts
mod Extremes
mod Domains
mod Paths
mod Fallbacks
pub mod Shared

pub mod Widening
mod Soonest

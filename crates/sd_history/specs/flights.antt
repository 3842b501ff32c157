-- Which flights are on their way after accepted steps.
pub mod Flights

-- Rounds on their way, and how far back a silence goes.
pub mod Rounds
pub mod Spans

-- Sources and sound ways, phases, and what is shown of silences.
pub mod Feeds
pub mod Phases

pub mod Sizes
pub mod Cases
pub mod Laws
pub mod OneCase
pub mod Planned
pub mod CaseRuns

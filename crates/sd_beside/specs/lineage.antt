-- The lineage of a report, and the laws on it.
pub mod Lineage
pub mod Laws

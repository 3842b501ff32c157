pub mod deployment
pub mod lineage
pub mod needed
pub mod translation
pub mod witness

-- Nodes of other kinds than a device.
pub mod Kinds

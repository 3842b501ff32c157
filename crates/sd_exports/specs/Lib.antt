pub mod Exports
pub mod Ports

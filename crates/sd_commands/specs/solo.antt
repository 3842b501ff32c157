pub mod Histories
pub mod Printed
pub mod Registers
pub mod Faults
pub mod Lines
pub mod Promises

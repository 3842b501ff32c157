pub mod Waits
pub mod Printed
pub mod Waiting
pub mod WaitsView
pub mod Standing

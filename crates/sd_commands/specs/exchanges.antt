pub mod Spans
pub mod Laws
pub mod Lines
pub mod Limits
pub mod Printed
pub mod Listed
pub mod Joints
pub mod Spelled

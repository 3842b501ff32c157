pub mod Deployment
pub mod Steps
pub mod Laws
pub mod Receipts
pub mod Ports
pub mod Worked
pub mod Witness

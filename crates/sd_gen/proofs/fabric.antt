-- A fabric's text is read as the fabric.
mod Numbering
mod Naming
mod Building
mod Paging
pub mod Reading
mod Tables

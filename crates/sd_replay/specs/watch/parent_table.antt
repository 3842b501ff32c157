-- What a `ParentTable` keeps of devices.
pub mod ParentTable
pub mod ParentTableView

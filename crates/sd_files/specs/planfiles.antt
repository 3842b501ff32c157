pub mod PlanFiles
pub mod Refusing
pub mod SetupError

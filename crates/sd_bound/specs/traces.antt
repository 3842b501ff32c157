-- Ways that stand.
pub mod Led

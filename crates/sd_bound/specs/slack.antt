pub mod Tighter
pub mod Slack

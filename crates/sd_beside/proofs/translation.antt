-- The laws, in reading order.
pub mod Lists
pub mod Pasts
pub mod Words
pub mod Views
pub mod Lives
pub mod Steps
pub mod Readings
pub mod Refused
pub mod Judged
pub mod Told
pub mod Laws
pub mod Counted

-- How logs grow by the lines of a feed, and what is settled of their merge.
pub mod Merging
pub mod Lines
pub mod Feeds
pub mod Growing
pub mod Reasons
pub mod Works
pub mod Queues
pub mod TurnOrder
pub mod Turns
pub mod Follows
pub mod Doing
pub mod Laws

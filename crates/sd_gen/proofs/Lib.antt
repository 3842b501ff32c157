-- Laws of drafts.
mod Listing
mod Recorded
mod Each
mod Sent
mod Trying
mod Posted
mod Receiving
mod Turning
mod Drawing
mod Making

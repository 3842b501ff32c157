mod Elements
mod Paths
pub mod Consequences
mod Worlds
mod Allowed
mod Air
mod Going
mod Beginning
mod Pasts
mod Still
mod Hush
mod Zones
mod Turns
mod Budget
mod Running
mod Ready
mod Moving
mod Rings
pub mod Loops
pub mod Seen
pub mod Cycles
mod Deaf
mod Unfed
mod Continuing
pub mod Reaches
mod Times
mod Takeovers
mod CutOff
mod Taken
pub mod Roots
pub mod Refusals
pub mod Alarms

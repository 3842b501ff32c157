-- The invariant that safety follows from: its clauses, what it gives at once, and facts that the other folders share.
-- src/lib.rt has the words in reading order and the lemmas by number.
pub mod Arithmetic
pub mod Parts
pub mod Timed
pub mod Prefix
pub mod Known
pub mod Cycles
pub mod Parents
pub mod Domains
pub mod InForce
pub mod Sides
pub mod Orders
pub mod Fallback
pub mod Staying
pub mod Following
pub mod CutPaths
pub mod Causes
pub mod Opening
pub mod Closings
pub mod Empty
pub mod Facts
pub mod Whole
pub mod Safe
pub mod Schedules
mod Rows
mod Quiets

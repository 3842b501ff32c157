-- Moves, takeovers and starts keep the core of the invariant; and the deadlines of lemma 4 with no
-- word on seals left.
--
-- # The result
--
-- | Name | From | Module |
-- |---|---|---|
-- | `start_keeps` | nothing | `Started` |
-- | `move_keeps`, `takeover_keeps` | `AreSilent` and `EntersSoon` | `Moves`, `Takeovers` |
-- | `sealed_in_time`, `backup_root_ends`, `ordinary_ends` (statements in `Wanted`) | nothing | `Sealings`, `Ends` |
--
-- The first three are fields of `EachKeeps` of `invariant`. A move uses of the silences 13, 14, 17
-- and 18, a takeover 15 alone.
--
-- # The way
--
-- `Ticks` says what a tick leaves alone, `Tickings` shows clause by clause what every tick keeps that
-- takes up nothing, of a device that is neither new nor blank, once the time to start is over. That
-- it is over comes from `not_beginning` (`Movers`): a device that moves was silent for two V at
-- least. `Starts` and `Started`: a start comes in the first era, of a member that was neither made
-- nor failed, at most Q after the first event.
--
-- - C3 at a move of a new device asks nothing, but C9 d does: so a move needs 18.
-- - At a takeover after a commit the root failed, so the staged root is the backup root (C9 c), and
--   a counted device that takes over is the old backup root.
-- - `rw` with the laws of `Ticks` turns a clause after the step into the clause before it. Laws whose
--   left sides have others inside come first (`epoch_other` before `up_other`).
-- Seals and deadlines, what a tick leaves alone, and the three kinds of events that keep the core.
pub mod Ticks
pub mod Movers
pub mod Tickings
pub mod Happened
pub mod Moves
pub mod Takeovers
pub mod Starts
pub mod Started
pub mod Ahead
pub mod Sealings
pub mod Ends

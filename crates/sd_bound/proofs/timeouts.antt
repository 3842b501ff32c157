-- What each device does once nothing fails any more, in a run under one plan: for how long it waits at most, and that it
-- keeps its place while it hears.
--
-- # The result
--
-- `IsUnderWay` says that from a reference on the run is under the plan of one number, with no window open: the first
-- plan where nothing was staged, or a later one since its closing. `IsSettled` says from which reference on nothing
-- fails. At each event later than that, `scene_at` gives a `Scene`: all that is taken of the invariant of the state
-- before it, by the one plan, and how long a device that could move has been silent at most. `onward_at` gives an
-- `IsOnward`: what the event leaves of the place of a device that did not fail. Who moved has moved for good, and who
-- heard lately neither moves nor takes over, since each wait is longer than W.
--
-- # What it takes as given
--
-- The invariant after each event before, as every step of its proof does (`IsNextEvent`).
-- Runs in which nothing fails any more.
pub mod Unstaged
pub mod Settled
pub mod Backed
pub mod Scenes
pub mod Onward
pub mod Since

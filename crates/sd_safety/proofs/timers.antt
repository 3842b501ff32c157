-- Timers of the devices of a history: what its readings, ticks and waits say of reference times.
-- These are the lemmas 1 to 7 by the numbers of `invariant`, of lists of steps and of histories.
--
-- # How it is built
--
-- The lemmas speak of any list of steps, newest first, that is timed (`AreTimed`, `Times`): each
-- step has its own act, is not earlier than the one before it, reads honestly, and gives duties of
-- the network's period. Every history that keeps the drift is such (`history_is_timed`, `Fitting`),
-- and a tail of a timed list is timed, so parts can be joined at any tail. `Histories` has the laws
-- for histories, with Low and Up of the network.
--
-- `heard_in`, `moved_in`, `sent_in` are the references at which a device last heard, moved and
-- sent; their counters are `heard`, `moved_at`, `sent_at` of its past.
--
-- Deadlines need no 'first tick after the wait is over'. `Due` (`Dues`) says of the latest tick of a
-- device that no wait was over by then, since a tick would have acted on it. It goes on with each
-- call (`Onward`), and so along the steps (`Deadlines`). The tick premise at the event at hand then
-- adds one gap, so membership is needed at that event alone.
--
-- # Where the lemmas are
--
-- | No. | Names | Module |
-- |---|---|---|
-- | 1, 2 | `timer_low`, `timer_high`; `low_between`, `high_between`; `readings_low`, `readings_high` | `Spans`; `Readings`; `Histories` |
-- | 4 | `primary_deadline`, `rested_at_most`; `silence_ends`, `rest_ends` | `Deadlines`; `Histories` |
-- | 4, since when a device is sealed | `sealed_from_start`, `sealed_by_seal`, `sealed_since` | `Sealed` |
-- | 5 | `move_not_early`, `takeover_not_early`; `move_waits`, `takeover_waits` | `NotEarly`; `Histories` |
-- | 6 | `emissions_apart`, `emission_not_early`; `sent_lately`, `sends_soon` | `Emissions`, `NotEarly`; `Deadlines`, `Histories` |
-- | 7 | of one past; of an entry, in a list of steps | `Pasts`, `Turns`; `OneWay` |
-- | since it last heard a device that does not act has kept its entry | `same_since_heard`, `primary_then`, `backup_then` | `Unmarked`, `LookingBack` |
--
-- Of a history, `timely` (`Histories`) makes `Timely` of `all_but_start_hold`, and `at_event` gives what
-- deadlines ask for, of a device that is up and a current member.
--
-- # Why some things are as they are
--
-- - A deadline holds of a device that was sealed late too, with the reference of the seal in place
--   of the end of its wait. On its backup it needs no word on seals.
-- - Emissions need not be of one acting life: any two emissions, takeovers or commits to act of one
--   device, the later one an emission, lie Low(period) apart.
-- - 'The same entry' needs 'not acting now' beside it, where one goes by what a device heard: a
--   commit is an entry at which nothing is heard.
-- Lemmas 1 to 7, from two readings to whole histories. Rows that compute come last.
pub mod Spans
pub mod Readings
pub mod NetworkBounds
pub mod Fitting
pub mod Marks
pub mod Transitions
pub mod Pasts
pub mod NotEarly
pub mod Onward
pub mod Periods
pub mod Deadlines
pub mod OneWay
pub mod Turns
pub mod Emissions
pub mod Sealed
pub mod CalmBeginning
pub mod Histories
pub mod Unmarked
pub mod LookingBack
mod Rows

-- The frame: what a step of a history leaves alone in the words of the invariant, and from it which
-- events keep its core.
--
-- # The result
--
-- | Kind of event | Name | From |
-- |---|---|---|
-- | report, loss, end, quiet tick, emission, fix | `ask`, `lose`, `ends`, `tick_quiet`, `tick_emits`, `fix` (`Idles`) | `EntersSoon` |
-- | receipt | `receive_from_standing` (`Shadows`) | `EntersSoon`, `StoodThen`, `KeepsEntering` |
-- | failure | `fail_device`, `fail_link` (`Failures`) | nothing |
-- | stage | `stage` (`Staging`) | nothing |
--
-- These are fields of `EachKeeps` of `invariant`, for every setting.
--
-- # What it takes as given, in specs/
--
-- - `EntersSoon` (`Silences` of `invariant`): 18 of members, shown in `entering`. It stands
--   for C9 b, which time alone could break, so every event asks for it.
-- - `StoodThen` (`Descents`) and `KeepsEntering` (`Receipts`): proved in `receipts`. They are
--   statements here since what stood at earlier events needs the receipts of this crate.
--
-- # The way
--
-- A step is elsewhere of a device (`IsElsewhere`) where it neither changes, makes nor fails it, and
-- plain (`IsPlain`) where it closes, stages, commits, fails, mends and joins nothing. `ElsewhereSteps` and
-- `PlainSteps` say what each leaves alone, word by word; `Alike` and `Core` carry the clauses over to a
-- state that is alike; `Timely`, `Lasting` show what asks for references and messages. `Changing` is
-- the pattern for an event that changes some devices, each of which stays as it was or stands outside
-- (`IsOutside`: down, past, blank or new) afterwards; `Failing` and `Turning` are that for a failure
-- and for who takes up the staged plan, and `LeftOut` has C9 g of both. `QuietCalls` is of calls that turn
-- nothing: gives and seals. `Climbing` and `Descending` show C6 at a receipt of the backup root: along
-- the trace and the walk to the root together.
--
-- - A stage, a failure and the end may be the very first event: then the core of no steps is wanted
--   (`core_empty`).
-- - At a failure of the backup root a device that is on its backup since that acts would lose its
--   cause (C3); the condition on the two roots bars it.
-- What a step leaves alone, word by word and clause by clause, and the events that so keep the core.
pub mod ElsewhereSteps
pub mod PlainSteps
pub mod Words
pub mod Steps
pub mod Alike
pub mod QuietCalls
pub mod Core
pub mod Timely
pub mod LeftOut
pub mod Lasting
pub mod Idles
pub mod Receiving
pub mod Staging
pub mod Changing
pub mod Failing
pub mod Turning
pub mod Failures
pub mod Climbing
pub mod Descending
pub mod Telling
pub mod Shadows
pub mod Standing

-- Behind and beside the backup root: lemmas 14, 16 and 17 by the numbers of `invariant`.
--
-- # The result (proofs/Silent)
--
-- `takeover` is 16 from `HearsNoMore`; `beside` is 17 from 13 and that; `unmended` and `mended` are
-- 14 while the backup root is old, in an era without a mend so far and in one with a mend; `behind`
-- puts 14 together. 15 is not used.
--
-- 14 has three parts: (i) what the backup root hears after its path broke, (ii) how long the devices
-- behind it wait without a straggler, (iii) and with one.
--
-- # What it takes as given, each in specs/ with the numbers (`Pieces`, `Feeding`)
--
-- | Statement | Shown in |
-- |---|---|
-- | `HearsNoMore` | `fallbacks` |
-- | `PathHearsNoMore` | `paths` |
-- | `FallbackFeeds` | `feeds` |
-- | `TakeoverFeeds` | `takeovers` |
-- | `MendedHears`, `MendedMoves` | `stragglers` |
-- | `BehindWaitsCommitted` | `commits` |
--
-- # The way
--
-- Nearly all of this goes back over the history in one form: a closing contradicts C10; else the
-- era, and so the plan, is the same, and what is said of its backup root before the event is carried
-- over. `Failing` goes back to the event at which the first of some things failed in the era. g is
-- that reference for the path of the backup root, gR for the root, a straggler is a round that crossed
-- a mended link after its sender failed or was cut off.
--
-- - A device that moved can only have heard earlier: the move comes at most the first wait and a tick
--   after it heard. So 16 needs no word on the straggler and no case by which came first.
-- - `seals_soon`: the backup root is sealed before its first wait is over, by its start or by C10.
-- - `Computed` computes the hypotheses on small histories. On the triangle few devices are behind the
--   backup root, so of the feeding this says little.
-- Going back to the first failure, the deadlines of the backup root, and 14, 16 and 17 from them.
pub mod Failing
pub mod EraSums
pub mod BeforeFailure
pub mod Beside
pub mod Moved
pub mod Takeover
pub mod EventBack
pub mod Broken
pub mod Paths
pub mod StoodBehind
pub mod Breaks
pub mod Behind
pub mod WaitingDuties
pub mod Waiting
pub mod Sealing
pub mod BackupRootTookOver
pub mod Silent
pub mod Mends
mod Computed

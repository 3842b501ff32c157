-- What rounds bring a device while the root lives: the feeding lemma (12 by the numbers of `invariant`).
--
-- # The way
--
-- `feeding`: along a sound way of m hops, m at most 2(H + 1), from a source that acts later than
-- s0, the device at its end heard a round emitted later than s0 at each event later than
-- s0 + A + m * D. `Supply` and `Rounds` find the K + 1 rounds, `WalkWays` and `Paths` make a way of
-- the walk of a device, and `States` and `Phases` say that this was so at each event of the phase.
--
-- `spans` has 13 and 15 from it, in all eras, across commits and closings, where the way has to follow
-- the clean round. After a receipt the silence is at most A + H * D at an event that fails nothing, and
-- up to Q more at one that fails something: it may cut off the last of the K + 1 rounds, which is then
-- neither received nor spoiled (`Gaps`).
-- The feeding lemma, and what 13 and 15 take from it.
pub mod NextEmissions
pub mod Supply
pub mod Rounds
pub mod Feeding
pub mod Hearing
pub mod WalkWays
pub mod Paths
pub mod Links
pub mod States
pub mod Phases
pub mod SoundWays
pub mod Spacing
pub mod NoMaking
pub mod RootIsSource
pub mod BeforeStart
pub mod FirstEra
pub mod FallbackWay
pub mod Gaps

-- How a device that comes to hear again is led from one that acts, in a run under one plan, once nothing fails any more
-- and devices had time to move.
--
-- # The result
--
-- `fed_chain`: such a device is at the end of a `Chain`, of at most H + 1 hops more than its walks have. A device that
-- is on its primary and has a backup heard lately, so the way of the round that it heard stands for good (`served`); so
-- it is with the backup root on its primary, and on its backup its fallback stands (`fallback_chain`). Any other device
-- is on its next hop, and that leads to one that comes to hear again too, with shorter walks (`next_fed`).
--
-- # What it takes as given
--
-- The invariant after each event before (`IsNextEvent`, in `IsSettled`), and that the backup root acts soon where the root
-- failed, as an argument.
-- Chains from a device that acts.
pub mod Cuts
pub mod Nexts
pub mod Hearing
pub mod Fallbacks
pub mod Chains

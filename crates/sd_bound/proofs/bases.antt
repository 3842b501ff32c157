-- The base half of the recovery bound: with which uncertainty a device sets its estimate.
--
-- # The result
--
-- `bases_hold : StaysInvariant (alone net plan) → BasesHold net plan` (proofs/Concluding).
--
-- # The way
--
-- An estimate is set from a clock within the base, or from a message: with the uncertainty that the
-- message carries and half of the hop's spread. A relay sends its estimate as it was set, so it ages
-- at the two acting ends alone, and there by the hold at most. By induction on the history, of all
-- devices and all messages together (`Holding`): the hops of a message lead along a walk on which
-- devices may be while the domain fails, up to the first of the two roots. What the backup root
-- hears came straight from the root, over primary hops alone, or over its fallback (`Straight`).
--
-- | In words | Names | Module |
-- |---|---|---|
-- | what of the plan is used: whom hops lead to, and what lies on the two ways of the backup root | `WellPlanned`, `one_parent` | `Planned` |
-- | an accepted message was sent by the parent of the hop that the device is on | `heard` | `Hearing` |
-- | who is on a way of the backup root while that hears over it has never moved | `path_straight`, `fallback_straight` | `Straight` |
-- | what is kept of estimates and of messages, and what a hop adds | `Based`, `SentSo` | `Sums` |
-- | the induction | `Holds`, `all_hold_so` | `Holding` |
-- | the two ends: who acts, and who is live | `bases_hold` | `Concluding` |
-- The base half of the bound: the plan, what is heard, straight ways, the sums, the induction.
pub mod Planned
pub mod Hearing
pub mod Straight
pub mod Sums
pub mod Holding
pub mod Concluding

-- The age half of the recovery bound: how old an estimate is at most when it is reported, in a run under one plan that
-- is never renewed, in which nothing fails or all things of one domain fail at one reference.
--
-- # The result
--
-- `silent_at_most`: a live device that comes to hear again and does not act is silent for at most `silence_at_most`.
-- Before the failures it hears as 13 says; then devices move, in at most `turning`; from then on it is at the end of a
-- chain. `silence_is_quiet`: this is no more than the drill counts. `ages_hold` goes over to the counters of the device:
-- its estimate was set no earlier than it last heard (`in_order`), and its counter keeps the drift.
--
-- # What it takes as given
--
-- That the invariant stays (`StaysInvariant`), and the silences of steady histories (`AreSilent`), of which it uses 13 and
-- 16: so only what puts these in stands on their proofs.
-- How long devices are silent at most, and how old their estimates are.
pub mod Beginnings
pub mod Takeovers
pub mod Silences
pub mod Orders
pub mod Ages

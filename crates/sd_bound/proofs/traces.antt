-- Ways along which rounds come down once nothing fails any more, in a run under one plan.
--
-- # The result
--
-- `Led` is a way from a device that acts to another, whose devices remain on their hops: `fed_by` says by when its last
-- device has its next event, by the feeding lemma. `stands_for_good` says that the way of a round that was emitted after
-- all failures stands for good: its devices hear along it before any of them would move. `trace_short` bounds how many
-- hops such a way has, or says that its end came soon after the failures.
--
-- # What it takes as given
--
-- The invariant after each event before, as every step of its proof does (`IsNextEvent`, in `IsSettled`).
-- Ways that stand.
pub mod Sources
pub mod Sounding
pub mod Receipts
pub mod Emitters
pub mod Served
pub mod Lengths

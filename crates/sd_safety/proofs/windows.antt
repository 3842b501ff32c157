-- The events of a window: what each of them keeps of the invariant.
--
-- # What is here of `EachKeeps`
--
-- The clauses are shown one by one, each of every device or link, from the clauses before the event
-- that it needs, which enter as plain hypotheses.
--
-- | Clause | Names | Module |
-- |---|---|---|
-- | C8, in every history: no device and no message is of a later epoch than the era before a commit, and than the staged one after it | `within`, `uncommitted`
-- | `NoneBeforeCommit` |
-- | a window closes with a seal alone (23) | `others_close_none` | `NoClosing`, `Seals` |
-- | C9 a: after a commit nothing fails, starts, joins, is mended, given, committed or staged | `rests_at` | `StaysNew` |
-- | C9 b at a commit, and at a receipt | `commit_enters`, `commit_is_in_time`; `receipt_keeps_entering` | `Members`, `Roles`; `Receivers` |
-- | C9 c at a commit, and at a receipt | `committer_is_right`, `committer_acts_alone`; `receipt_keeps_committer`, `receipt_keeps_acting` | `Committing`;
-- `Roles`, `Actors` |
-- | C9 d at a commit, and at a receipt | `commit_links`; `receipt_keeps_linked` | `Linked` |
-- | C10 at a closing | `closing_begins` | `Linked`, `Closing` |
-- | what a seal leaves alone | | `Sealing` |
--
-- Much of this is a matter of order and holds in each history, or each clean one: that a new device
-- stays new, that it has no given duty, and that who sent a message of the staged epoch is new. So
-- C9 d needs no trace: the sender of an entering receipt is new at that moment.
--
-- # What is elsewhere
--
-- `receipts` and `renewals` put these together to the fields of `EachKeeps`, with
-- C9 g at a commit (21) and the clauses of the old era. C9 b later than A + H * D after the commit is
-- 18, which `EntersSoon` states.
-- Frames of the events of a window, and C8, C9 and C10 clause by clause.
pub mod Eras
pub mod NoneBeforeCommit
pub mod NoClosing
pub mod Frames
pub mod Acting
pub mod Committing
pub mod Sealing
pub mod Links
pub mod Roots
pub mod Closing
pub mod StaysNew
pub mod Senders
pub mod Leading
pub mod Entering
pub mod Receiving
pub mod Linked
pub mod Given
pub mod Members
pub mod Seals
pub mod Receivers
pub mod Roles
pub mod Actors

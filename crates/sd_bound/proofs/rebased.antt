-- With which uncertainty estimates are set after a renewal.
--
-- # The result
--
-- `bases_hold_renewed : BasesHoldRenewed setting budget f`, and with the half that is on ages `drill_holds_renewed` (proofs/rebased/Bases).
--
-- # The way
--
-- What a member holds of the plan in force was set by a clock, or by a message of that plan (`Sets`). The message came down a trace,
-- and each hop of it adds its half (`Carried`). A trace is of one plan number, whatever the eras in which it runs. While that plan is
-- yet to come into force nobody of it has moved or acts but its root; later the invariant says who moved, and why. So by recursion on
-- the trace: who moved was hit, and what it holds came over a walk on which devices may be while the domain fails (`Walked`). The
-- root hears nothing of its plan. What the backup root hears came down one of its two ways (`BackupRoot`).
--
-- | In words | Names | Module |
-- |---|---|---|
-- | how an estimate was set | `SetBy`, `set_by` | `Sets` |
-- | what a trace carries, along a way | `carried_by`, `carried_down` | `Carried` |
-- | what the backup root hears | `backup_root_based` | `BackupRoot` |
-- | what a member holds | `walked_now` | `Walked` |
-- | the two ends: who acts, and who is live | `bases_hold_renewed`, `drill_holds_renewed` | `Bases` |
pub mod Sets
pub mod Carried
pub mod BackupRoot
pub mod Walked
pub mod Bases

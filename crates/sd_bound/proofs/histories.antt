-- Histories in which no plan is ever staged: what of the invariant is left there, in fewer words.
--
-- # What there is
--
-- | In words | Names | Module |
-- |---|---|---|
-- | no window, nothing closed, plan 1 in force, and no events but starts, ticks, receipts, fixes, asks, losses, failures and the end | `no_window`,
-- `first_epoch`, `plain_event` | `Plain` |
-- | what an act brings a device; no device lives twice or takes up a duty later, so all its pasts are of one entry | `past_by`, `called_by`, `inside_of` |
-- `Lives` |
-- | what failed so far lies in the domain; what is not among it never failed | `all_within`, `era_within`, `never_failed` | `Failures` |
-- | a member that is up is old and never failed; how it stands, by its past; the clauses of the invariant on roots, backups and the two ways of the backup root
-- | `IsLive`, `Stands`, `stands` | `Standing` |
--
-- A history is a part of a longer one where it is a `Tail` of it (`messages`); whatever is
-- given of a run that recovers is given of each such part, but for its failures, which may be yet to
-- come.
--
-- Such a history is one of its first plan alone, whatever plans come after it (`Unstaged`).
-- Histories without a stage.
pub mod Plain
pub mod Lives
pub mod Failures
pub mod Standing
pub mod Unstaged

-- Lemmas 3 to 7 on timers in the words of the invariant: how long old devices are silent, rest and
-- send nothing, at most and at least, and how they stood at earlier events; and C0 in every clean
-- history over guarded plans.
--
-- | In words | Names | Module |
-- |---|---|---|
-- | `heard_at`, `moved_at`, `sent_at` are `heard_in`, `moved_in`, `sent_in` | `heard_is`, `moved_is`, `sent_is` | `SameReferences` |
-- | 4, 6: of an old member, at most | `backup_root_silence`, `ordinary_silence`, `backup_root_rest`, `root_sends` | `Waits` |
-- | 5, 6: at a move, a takeover, an emission, at least | `backup_root_moves`, `ordinary_moves`, `backup_root_takes_over` | `Waits` |
-- | 7: how a device stood before each event later than it heard or moved | `was_on_primary`, `was_on_backup` | `LookingBack` |
-- | C0 | `quiet`, `still`, `touched` | `Beginning` |
--
-- And facts that the crates above share:
--
-- | In words | Names | Module |
-- |---|---|---|
-- | each wait of a duty of a device has a Low of twice V at least; a staged plan is one of the plans | `waits_are_long`, `staged_within` | `LeastWaits` |
-- | the number of a duty is from 1 to that of the staged plan; eras do not fall | `duty_numbered`, `era_rises` | `Epochs` |
-- | who is up, who leads and who is old before an event that comes | `is_up_then`, `lives`, `leads`, `backup_root_is_old` | `Standing` |
-- Lemmas on timers in the words of the invariant, and facts on who stands that the crates above share.
pub mod SameReferences
pub mod Waits
pub mod LookingBack
pub mod Beginning
pub mod Epochs
pub mod Standing
pub mod LeastWaits

-- How long the devices behind the backup root wait after a commit, until they enter: lemma 14 of
-- `invariant` where the backup root is new.
--
-- # The result
--
-- | Name | In words | Module |
-- |---|---|---|
-- | `behind_waits_committed` | where the backup root is new, an old device behind it, on its primary and not hit, is silent for less than its wait
-- (`BehindWaitsCommitted` of `behind`), from four of the statements there | `Committed` |
-- | `behind_waits_longer` | while the root lives and the backup root is old, it is so even A + H * D later (`BehindWaitsLonger`) | `SpareTime` |
-- | `took_over_early` | an old backup root that acts took over so early that it is so until A + H * D after the takeover (`TookOverEarly`) | `SpareTime` |
--
-- # The way
--
-- The device is a member of the staged plan, so it enters within A + H * D of the commit (18). Where
-- it heard nothing since the commit it stood behind the backup root before that (`FoundCommit`), which was
-- old then.
--
-- - The root committed: the time that entering takes is added to the silence at the commit. The sums
--   of 14 have room for it (`SpareTime`), since rule 5 of the checker counts a second wait that does not
--   pass while the root lives.
-- - The backup root committed: there is no such room after a straggler. But the K + 1 rounds that end a
--   silence may lie on both sides of the commit. The backup root acted since its takeover (`BackupRootActed`)
--   and leads (`Sources`). By `silent_by` of `rounds`, of K + 1 rounds one is clean: one of
--   the era's plan comes down the cut walk, and one of the staged plan makes the device new (`Fed`).
--   So only A + H * D after the takeover counts.
--
-- After a commit nothing fails, so that no round is cut off, and no tick gap is added.
-- 14 where the backup root is new, from what is said while it is old.
pub mod BackupRootActed
pub mod FoundCommit
pub mod Sources
pub mod Fed
pub mod Sums
pub mod SpareTime
pub mod Committed

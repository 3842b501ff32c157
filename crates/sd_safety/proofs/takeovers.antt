-- How the devices behind the backup root hear after its takeover (14 of `invariant`).
--
-- # The result
--
-- | Name | In words | Module |
-- |---|---|---|
-- | `takeover_feeds` | while the old backup root acts, an old device behind it, on its primary and not hit, hears soon (`TakeoverFeeds` of `behind`) | `Feeds`
-- |
--
-- # The way
--
-- - An old backup root that acts has moved, so it took over in its era. Since then it has been old and
--   acted, no window was closed and no commit came (`Acted`, `Since`, `Places`).
-- - So it is a source from the takeover on, its rounds are of one acting life and of the era's plan,
--   and none emits a newer term (`Source`).
-- - The way down the cut walk of the device is open to each of its rounds (`Open`). So the device
--   heard no earlier than a clean one was emitted that had time to come to it (`Heard`).
-- - The takeover is a round itself. So where the device heard nothing since, K more rounds are enough,
--   K * P after it; and else K + 1, A after it last heard (`Rounds`).
-- - The silence is counted up to the event before, since an event that fails something may cut off
--   the last round; the next event comes at most Q later (`Feeds`).
--
-- # Why some things are as they are
--
-- Other events may come with the reference of the takeover and before it. So what has been since is
-- told by the order of events, and by their references only of what is later than the takeover.
-- How the devices behind the backup root hear after its takeover.
pub mod Acted
pub mod Since
pub mod Places
pub mod Source
pub mod Open
pub mod Heard
pub mod Rounds
pub mod Feeds

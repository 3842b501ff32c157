-- How the devices behind the backup root hear over its fallback while the root lives (14 of
-- `invariant`).
--
-- # The result
--
-- | Name | In words | Module |
-- |---|---|---|
-- | `fallback_feeds` | while the root lives and the backup root is on its backup, an old device behind that, on its primary and not hit, hears soon
-- (`FallbackFeeds` of `behind`) | `Feeds` |
--
-- # The way
--
-- - The backup root has been on its backup since its move: a closing would have put it on its
--   primary, and it does not act while the root lives (`Since`).
-- - The cut walk of the device ends at the backup root and is shorter than the walk (`Cuts`); each
--   device of it is ordinary and not hit, so on its primary (`Ready`).
-- - So the way over the fallback and down the cut walk, of 2 * H hops at most, is open to each round,
--   and `silent_by` of `rounds` bounds the silence (`Fed`).
-- - The silence is counted up to the event before, since an event that fails something may cut off
--   the last round; the next event comes at most Q later (`Feeds`).
-- How the devices behind the backup root hear over its fallback.
pub mod Cuts
pub mod Ready
pub mod Since
pub mod Fed
pub mod Feeds

-- What the backup root heard over its fallback; and so 16 and 17.
--
-- # The result (`NoMore`)
--
-- | Name | In words |
-- |---|---|
-- | `hears_no_more` | where the root failed, an old backup root that does not act heard at most (H + 1) * D after that (`HearsNoMore`) |
--
-- # The way
--
-- While the backup root has moved and does not act, nobody of its fallback had moved or acted in the
-- plan (`Fallbacks`): who moved was hit otherwise than by the root, and nothing of the fallback
-- failed but the root; and the backup root did not act before, since who acts acts on (`Onward`). So
-- a message that it heard then came down the fallback (`Moved`).
-- What the backup root heard over its fallback, and safety from 14.
pub mod Onward
pub mod Fallbacks
pub mod Moved
pub mod NoMore

-- 13 and 15 in all eras, before and after a commit.
--
-- # The result
--
-- | Name | In words | Module |
-- |---|---|---|
-- | `whole_path_hears` | 13: while the root lives a device with a whole path hears (`WholePathHears`) | `PathHearsAtEvents` |
-- | `fallback_hears` | 15: while it lives the backup root on its backup hears (`FallbackHears`) | `FallbackRests` |
--
-- # The way
--
-- The silence of an old device goes back to a receipt of its plan, and so no further than the commit
-- of the window with whose closing the era began; the rest of the backup root not beyond the closing
-- (`SilenceStarts`). So the time since then is a span of `rounds`. A device that is old and not
-- hit, and the backup root, is a member of the staged plan (`Staged`), as `silent_by` asks. The
-- silence is counted up to the event before, since an event that fails something may cut off the
-- last round; the next event comes at most Q later.
-- How far back silences go, and 13 and 15 in all eras.
pub mod SilenceStarts
pub mod Staged
pub mod PathHears
pub mod PathHearsAtEvents
pub mod FallbackWay
pub mod FallbackHears
pub mod FallbackRests

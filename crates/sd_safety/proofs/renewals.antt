-- The events of a window keep the core of the invariant; and with that each kind of event does.
--
-- # The result (`Each`)
--
-- `each_keeps : AreSilent setting → AtNext EntersSoon setting → EachKeeps setting`, and with `safe` of
-- `invariant` `safe_if_silent : AreSilent setting → AtNext EntersSoon setting → AlwaysSafe setting`.
-- Nothing is assumed beside the silences.
--
-- | Kind of event | Name | From | Module |
-- |---|---|---|---|
-- | give | `give` | `EntersSoon` | `Gives` |
-- | mend of a device, of a link | `mend_device`, `mend_link` | `EntersSoon` | `Mends` |
-- | join | `join` | `EntersSoon` | `Joins` |
-- | commit | `commit` | nothing | `Commits` |
-- | seal with which the window stays open | `seal` | `EntersSoon` | `Seals` |
-- | seal that closes it | `seal_closes` | `AreSilent` | `Closings` |
--
-- `commit_leaves_out` (`LeavesOut`) is lemma 21.
--
-- # The way
--
-- - Before a commit C9 asks for nobody (`Preparing`), so gives, mends and joins change C1 alone.
-- - 21: where nothing of the cut path of a member failed, that joins it to the root or the backup
--   root, and so to the staged root; renewal asks that nobody who is joined is left out. Joined is
--   said of as many links as there are devices; a way with more comes back to a device, and is cut
--   there (`Ways`).
-- - A commit turns one device, which acts and was root or backup root, to the staged plan (`Turning`
--   of `frame`).
-- - A closing: who is up and no member of the new plan was left out, and is past. C6 of the new plan
--   is climbed from the round that the new backup root heard last (`climb` of `frame`):
--   that was of the new plan, since it entered by a receipt (`heard_in_plan`).
-- The events of a window, by kind.
pub mod Preparing
pub mod Gives
pub mod Mends
pub mod Seals
pub mod Joins
pub mod Ways
pub mod LeavesOut
pub mod Commits
pub mod Closings
pub mod Each

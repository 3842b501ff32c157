-- Stragglers: what the backup root hears, and when it moves, after its path broke in an era with a mend.
--
-- # The result
--
-- | Name | In words | Module |
-- |---|---|---|
-- | `mended_hears` | on its primary the backup root heard nothing long after its path broke, or at most a straggler, or its path is whole again and the devices
-- behind it hear soon (`MendedHears` of `behind`) | `Hears` |
-- | `mended_moves` | it moved without a straggler, or after one, which came after the root failed, if it did (`MendedMoves`) | `Moves` |
--
-- # The way
--
-- - Nothing fails from the first mend of the era until it closes, so what failed, and when, stays
--   (`Mend` of `paths`).
-- - A round that was heard before the mend was emitted no later than the path broke, by
--   `paths`. One that was emitted before the mend and heard after it is a straggler. Its receipt
--   comes at most a first wait and a tick after the receipt before it, and that came before the mend:
--   rounds do not overlap, and the backup root takes each round once (`no_second` there).
-- - A round that was emitted after the mend crossed each link of the path while it was whole, and from
--   devices that did not fail. So the path has been whole since (`Stragglers`), and each round of the root
--   comes down it, and down the cut walk to a device behind the backup root (`PathWholeSince`, `PathWays`).
-- - Once its path is whole again the backup root does not move: it hears each round, and it moves no
--   sooner than Low of its first wait after it heard (`Waited`, `BackupRootMoves`). `Moves` goes back from event to
--   event to the move.
-- What the backup root hears, and when it moves, in an era with a mend.
pub mod Stragglers
pub mod PathWholeSince
pub mod PathWays
pub mod Hears
pub mod Waited
pub mod BackupRootMoves
pub mod Moves

-- What the fields of `ParentTable` stand for. The loop and the roots that are kept are those of the parent_table.
use Rattle.std.specs.Prelude.{◌≡◌, ◌<◌, ◌^◌, length, MatchOption}
use Rattle.sd_replay.specs.watch.Watch.{parent_in, HasNoLoop, IsFirstOnLoop, acting_devices, two_least}
use Rattle.sd_replay.specs.watch.parent_table.ParentTable.{Kept}
use Rattle.sd_replay.specs.declared.watch.parent_table.ParentTable.TheInside.{Inside}

-- what the fields stand for
abbrev pub parent_table_seen : Inside → Kept
parent_table_seen s = record { parents = s.parents.items; acting = s.acting.items }

-- the loop and the roots that are kept are those of the parents and of who acts
pub record IsParentTable (s : Inside) : Type 0 where
  pub looped : MatchOption s.looped (HasNoLoop (parent_in s.parents.items)) (λ d. IsFirstOnLoop (parent_in s.parents.items) d)
  pub roots : s.roots ≡ two_least (acting_devices s.acting.items)
  pub numbers : length s.acting.items < 2 ^ 32

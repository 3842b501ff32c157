-- What the monitors see and find of a step with which its device stands as before, where nothing else is to be found than what the premises tell.
use Rattle.std.specs.Prelude.{◌≡◌, ℕ, ◌<◌, ◌≤◌, List, ◌∷◌, length, IfSome, None}
use Rattle.std.proofs.Common.{sym, ◌∙◌, subst}
use Rattle.sd_history.specs.declared.BrokenSet.{BrokenSet}
use Rattle.sd_history.specs.Premises.{breaks}
use Rattle.sd_history.specs.World.{Setting, Seen}
use Rattle.sd_history.specs.Steps.{Step, seen_of}
use Rattle.sd_history.proofs.Known.{named_is_known}
use Rattle.sd_premise.specs.Calm.{Sees}
use Rattle.sd_premise.specs.Standing as premises
use Rattle.sd_premise.proofs.Asking.{can_observe}
use Rattle.sd_premise.proofs.Stepping.{can_follow}
use Rattle.sd_replay.specs.watch.parent_table.ParentTable as parent_table
use Rattle.sd_replay.specs.declared.alarms.Alarms.{Alarms}
use Rattle.sd_replay.specs.declared.monitors.Monitors.{Monitors}
use Rattle.sd_replay.specs.Standing.{IsParentTable, IsQuickStep, CanLook, Looks}
use Rattle.sd_replay.specs.Troubles.{found_by}
use Rattle.sd_replay.proofs.Looking.{AreFound, lines_are, found_of}
use Rattle.sd_replay.proofs.Others.{steps_know}
use Rattle.sd_replay.proofs.ParentTable.{one_kept, no_new_loop, no_new_roots}

-- nothing is new
abbrev no_alarms : Alarms
no_alarms = record { looped = None; roots = None }

module _ (IsSuch : Seen → Type 0) (reference d : ℕ) where
  -- What the premises ask

  module _ (monitors : Monitors) (sends : (s : Seen) → IsSuch s → length s.sent ≤ premises.room_of monitors.premises)
      (can : CanLook monitors (IsQuickStep IsSuch reference d)) where
    pub asks : premises.CanObserve monitors.premises can.s.seen
    asks =
        can_observe monitors.premises can.setting (seen_of can.earlier) can.s.seen can.has_seen.premises
        (can_follow can.setting can.s can.earlier can.such.accepted) (sends can.s.seen can.such.seen)

    pub device_there : d < length monitors.premises.world.devices
    device_there = subst (λ o. IfSome o (λ x. x < length monitors.premises.world.devices)) can.such.named asks.named.device

  -- What they see and find

  module _ (setting : Setting) (s : Step) (earlier : List Step) (is : IsQuickStep IsSuch reference d setting s earlier) (kept : parent_table.Kept)
      (are : IsParentTable kept setting earlier) where
    -- each device stands as it is kept
    table_stays : IsParentTable kept setting (s ∷ earlier)
    table_stays =
        one_kept setting s earlier kept d is.accepted is.stays is.named
        (are.each d (named_is_known setting earlier s.seen.event d is.accepted.1 is.named) ∙ sym is.row) are

    -- so nothing is found but what the premises tell
    found : (broken : BrokenSet) → broken ≡ breaks setting (seen_of (s ∷ earlier))
        → AreFound setting s earlier (found_by (record { broken = broken; alarms = no_alarms }) None reference)
    found broken told =
        let before = steps_know setting earlier is.accepted.0 in
        let after = steps_know setting (s ∷ earlier) is.accepted in
        record {
          broken = told;
          looped = no_new_loop kept setting s earlier are table_stays before after;
          roots = no_new_roots kept setting s earlier are table_stays before after;
          report = sym is.untold;
          reference = sym is.at;
        }

  pub looks : (old new : Monitors) (sends : ℕ) (broken : BrokenSet) → Sees IsSuch sends old.premises new.premises broken
      → new.parent_table ≡ old.parent_table
      → Looks (IsQuickStep IsSuch reference d) reference old new (record { broken = broken; alarms = no_alarms })
  looks old new sends broken sees same =
      record {
        stands = λ setting s earlier is has_seen.
            record {
              premises = sees.stands setting (seen_of earlier) s.seen is.seen (can_follow setting s earlier is.accepted) has_seen.premises;
              parent_table =
                  subst (λ kept. IsParentTable kept setting (s ∷ earlier)) (sym same)
                  (table_stays setting s earlier is old.parent_table has_seen.parent_table);
            };
        found = λ setting s earlier is has_seen.
            lines_are setting s earlier _
            (found setting s earlier is old.parent_table has_seen.parent_table broken
            (sees.breaks setting (seen_of earlier) s.seen is.seen (can_follow setting s earlier is.accepted) has_seen.premises));
        devices = λ setting s earlier is has_seen.
            found_of setting s earlier _
            (found setting s earlier is old.parent_table has_seen.parent_table broken
            (sees.breaks setting (seen_of earlier) s.seen is.seen (can_follow setting s earlier is.accepted) has_seen.premises)) is.accepted;
      }

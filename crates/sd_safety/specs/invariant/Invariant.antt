-- The invariant of histories whose plans are guarded and in which all premises but start hold: what holds of the state after each event. A record for
-- each of its parts; their fields are tests, of all devices or links. Then the same as one test, which computes on a given history.
use Rattle.std.specs.Prelude.{ℕ, Bool, true, ◌&&◌, ◌||◌, List, [], ◌∷◌, IsTrue}
use Rattle.std.specs.List.{list_any, list_all}
use Rattle.sd_plan.specs.topo.Network.{device_numbers, link_numbers}
use Rattle.sd_history.specs.World.{Setting}
use Rattle.sd_history.specs.Steps.{Step}
use Rattle.sd_safety.specs.invariant.Clauses.{nothing_emitted, stays, was_touched, member_is_up, member_follows, returned_is_joined, outsider_is_past, counted_is_current, blank_is_idle, link_is_sound, root_acts, failed_root_is_not_old, ordinary_follows, backup_is_caused, move_is_caused, takeover_is_caused, path_stays, shadow_is_short, fallback_device_is_sound, fallback_link_is_sound, fallback_stays, none_is_new, none_sent_ahead, none_sealed_early, none_started_late, none_fails_after_mend, rests_after_commit, member_enters, member_entered, committer_is_root, committer_acts, new_is_linked, left_out_is_hit, begins_with, member_begins, root_begins, link_begins}

-- the test holds of every number
abbrev pub ForEach : (ℕ → Bool) → Type 0
ForEach test = (d : ℕ) → IsTrue (test d)

-- C0
pub record BeganQuietly (setting : Setting) (steps : List Step) : Type 0 where
  -- while members of the first plan may start, nothing is emitted
  pub quiet : IsTrue (nothing_emitted setting steps)
  -- and nobody moves
  pub still : ForEach (stays setting steps)
  -- later each member of the plan was started, or has failed
  pub touched : ForEach (was_touched setting steps)

-- C1
pub record IsCounted (setting : Setting) (steps : List Step) : Type 0 where
  -- once all have started, a member that did not fail in the era is up
  pub members_up : ForEach (member_is_up setting steps)
  -- and old, or new after it entered
  pub members_follow : ForEach (member_follows setting steps)
  -- a member that is up after it failed in the era joined in the open window, and is blank or new
  pub returned : ForEach (returned_is_joined setting steps)
  -- a device that is up and no member is past, or joined in the open window and is blank or new
  pub outsiders : ForEach (outsider_is_past setting steps)
  -- a device that counts as live is not past
  pub current : ForEach (counted_is_current setting steps)
  -- a blank device has no parent and does not act
  pub blanks : ForEach (blank_is_idle steps)
  -- a link of the plan that did not fail in the era is not failed
  pub links : ForEach (link_is_sound setting steps)

-- C2
pub record HasRoles (setting : Setting) (steps : List Step) : Type 0 where
  -- the root acts while it is up and did not fail in the era
  pub root : IsTrue (root_acts setting steps)
  -- a root that failed in the era is not old
  pub failed_root : IsTrue (failed_root_is_not_old setting steps)
  -- an old device other than root and backup root does not act
  pub ordinary : ForEach (ordinary_follows setting steps)

-- C3 to C6
pub record HasCauses (setting : Setting) (steps : List Step) : Type 0 where
  -- C3: an old ordinary device on its backup is hit, and it is hit otherwise than by the root, or the backup root acts
  pub backups : ForEach (backup_is_caused setting steps)
  -- C4: where an old backup root has moved or taken over, its path is hit
  pub move : IsTrue (move_is_caused setting steps)
  -- and it acts only where the root failed
  pub takeover : IsTrue (takeover_is_caused setting steps)
  -- C5: while an old backup root is on its primary, so is each old device above it
  pub path : ForEach (path_stays setting steps)
  -- C6: and those heard at most H * D, or Q, earlier than it
  pub shadow : ForEach (shadow_is_short setting steps)

-- C7
pub record HasFallback (setting : Setting) (steps : List Step) : Type 0 where
  -- where an old backup root has moved, nothing of its fallback failed in the era but perhaps the root
  pub devices : ForEach (fallback_device_is_sound setting steps)
  pub links : ForEach (fallback_link_is_sound setting steps)
  -- and up to its takeover each old device of the fallback is on its primary
  pub stay : ForEach (fallback_stays setting steps)

-- C8
pub record IsUncommitted (setting : Setting) (steps : List Step) : Type 0 where
  -- before a commit no device is new
  pub devices : ForEach (none_is_new steps)
  -- and nothing was sent in the staged epoch
  pub messages : IsTrue (none_sent_ahead steps)

-- C8 and C9 a: matters of order
pub record IsInOrder (setting : Setting) (steps : List Step) : Type 0 where
  -- nothing is sealed before a commit
  pub seals : IsTrue (none_sealed_early steps)
  -- nothing starts after a stage
  pub starts : IsTrue (none_started_late steps)
  -- nothing fails after the first mend of the open window
  pub failures : IsTrue (none_fails_after_mend steps)
  -- after its commit nothing fails, is mended, starts or joins
  pub rest : IsTrue (rests_after_commit steps)

-- C9 g: the members that the staged plan leaves out are hit, or not all have started and all have still time to
abbrev pub leaves_out_rightly : Setting → List Step → Bool
leaves_out_rightly setting steps =
    list_all (left_out_is_hit setting steps) (device_numbers setting.net) || list_any (begins_with setting steps) (device_numbers setting.net)

-- C9
pub record IsCommitted (setting : Setting) (steps : List Step) : Type 0 where
  -- b: each member of the staged plan is new, or old or blank with its duty given
  pub entering : ForEach (member_enters setting steps)
  -- and new once A + H * D have passed since the commit
  pub entered : ForEach (member_entered setting steps)
  -- c: the staged root is the root, or where that failed the backup root, and is new
  pub committer : IsTrue (committer_is_root setting steps)
  -- it acts, and no other counted device does
  pub acting : ForEach (committer_acts setting steps)
  -- d: a new device other than it is on its primary, its parent is new, and parents lead to the staged root in at most H steps
  pub linked : ForEach (new_is_linked setting steps)
  -- g: the members that the staged plan leaves out are hit, and neither root nor backup root
  pub left_out : IsTrue (leaves_out_rightly setting steps)

-- C10
pub record IsClosed (setting : Setting) (steps : List Step) : Type 0 where
  -- right after a closing each member is up, of the plan and sealed, and heard at most W ago on its primary, or acts as root
  pub members : ForEach (member_begins setting steps)
  -- the root sent at most P ago
  pub root : IsTrue (root_begins setting steps)
  -- and no link of the plan is failed
  pub links : ForEach (link_begins setting steps)

-- what has to be shown at each event
pub record Core (setting : Setting) (steps : List Step) : Type 0 where
  pub calm : BeganQuietly setting steps
  pub census : IsCounted setting steps
  pub roles : HasRoles setting steps
  pub causes : HasCauses setting steps
  pub uncommitted : IsUncommitted setting steps
  pub committed : IsCommitted setting steps
  pub closed : IsClosed setting steps

-- all of it: the rest follows
pub record Invariant (setting : Setting) (steps : List Step) : Type 0 where
  pub core : Core setting steps
  pub fallback : HasFallback setting steps
  pub order : IsInOrder setting steps

-- the predicate holds after each event
abbrev pub AtEach : (List Step → Type 0) → List Step → Type 0
AtEach P [] = Unit {0}
AtEach P (s ∷ earlier) = AtEach P earlier × P (s ∷ earlier)

-- the steps are those up to some event of the later ones
pub data IsPart : List Step → List Step → Type 0 where
  all : {s : Step} {earlier : List Step} → IsPart (s ∷ earlier) (s ∷ earlier)
  before : {s : Step} {part earlier : List Step} → IsPart part earlier → IsPart part (s ∷ earlier)

-- The invariant as a test

-- the clauses on a device
abbrev pub device_tests : Setting → List Step → ℕ → Bool
device_tests setting steps d =
    stays setting steps d && was_touched setting steps d
    && member_is_up setting steps d && member_follows setting steps d && returned_is_joined setting steps d && outsider_is_past setting steps d
    && counted_is_current setting steps d && blank_is_idle steps d
    && ordinary_follows setting steps d
    && backup_is_caused setting steps d && path_stays setting steps d && shadow_is_short setting steps d && fallback_device_is_sound setting steps d
    && fallback_stays setting steps d
    && none_is_new steps d
    && member_enters setting steps d && member_entered setting steps d && committer_acts setting steps d && new_is_linked setting steps d
    && member_begins setting steps d

-- the clauses on a link
abbrev pub link_tests : Setting → List Step → ℕ → Bool
link_tests setting steps l = link_is_sound setting steps l && fallback_link_is_sound setting steps l && link_begins setting steps l

-- the clauses on the whole state
abbrev pub state_tests : Setting → List Step → Bool
state_tests setting steps =
    nothing_emitted setting steps
    && root_acts setting steps && failed_root_is_not_old setting steps
    && move_is_caused setting steps && takeover_is_caused setting steps
    && none_sent_ahead steps && none_sealed_early steps && none_started_late steps && none_fails_after_mend steps
    && rests_after_commit steps && committer_is_root setting steps && leaves_out_rightly setting steps
    && root_begins setting steps

-- the invariant of all devices and links of the network
abbrev pub invariant_holds : Setting → List Step → Bool
invariant_holds setting steps =
    state_tests setting steps && list_all (device_tests setting steps) (device_numbers setting.net)
    && list_all (link_tests setting steps) (link_numbers setting.net)

-- after each event
abbrev pub holds_at_each : Setting → List Step → Bool
holds_at_each setting [] = true
holds_at_each setting (s ∷ earlier) = holds_at_each setting earlier && invariant_holds setting (s ∷ earlier)

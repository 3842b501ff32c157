-- The clauses of the invariant, each a test of the state after steps, most of them of one device or link: so they compute on a given history.
use Rattle.std.specs.Prelude.{ℕ, ◌+◌, ◌*◌, Bool, false, ◌&&◌, ◌||◌, not, List, [], ◌∷◌, map, max, nat_eq, nat_le, nat_lt, Some, None, is_some, if◌then◌else◌}
use Rattle.std.specs.List.{list_any, list_all}
use Rattle.sd_num.specs.Lists.{below, has, map_or, same_number, find_map_or, follow}
use Rattle.sd_plan.specs.Plans.{is_member, is_present, is_root}
use Rattle.sd_plan.specs.Walks.{walk}
use Rattle.sd_checker.specs.check_root.Timing.{round_gap, silence}
use Rattle.sd_checker.specs.check_root.Roots.{fallback_devices, fallback_links}
use Rattle.sd_sched.specs.Events.{reference_of, started, joined, is_stage, is_commit, is_seal}
use Rattle.sd_history.specs.Things.{failure_of, mended}
use Rattle.sd_history.specs.World.{Setting, Seen, is_up, link_has_failed, is_untouched, latest_reference, window, in_window, has_commit, staged_epoch, staged, is_counted, is_staged_member, joined_in_window, plan_numbered}
use Rattle.sd_history.specs.Steps.{Step, seen_of, parent_in, acts_in, given_in, has_settled, flights}
use Rattle.sd_safety.specs.invariant.Bounds.{depth, delay, tick_gap, rounds_gap}
use Rattle.sd_safety.specs.invariant.Eras.{era, plan_now, device_failed_now, link_failed_now, all_started, is_old, is_new, is_blank, is_past, moved, on_primary, belongs, will_belong, is_ordinary, hit, hit_otherwise, path_hit, root_failed, root_lives, heard_at, sent_at, has_emission, none_after, none_after_in_window}

infixr 3 ◌⟹◌
-- where the first holds, the second does
abbrev pub ◌⟹◌ : Bool → Bool → Bool
a ⟹ b = not a || b

-- C0: calm beginning

-- members of the first plan may start yet
abbrev pub is_beginning : Setting → List Step → Bool
is_beginning setting steps = nat_eq (era steps) 1 && nat_le (latest_reference (seen_of steps)) (all_started setting steps)

-- nothing was emitted while members may start
abbrev pub nothing_emitted : Setting → List Step → Bool
nothing_emitted setting steps = is_beginning setting steps ⟹ not (has_emission steps)

-- nobody moved meanwhile
abbrev pub stays : Setting → List Step → ℕ → Bool
stays setting steps d = is_beginning setting steps ⟹ not (moved steps d)

-- then each member of the plan was started, or has failed
abbrev pub was_touched : Setting → List Step → ℕ → Bool
was_touched setting steps d = not (is_beginning setting steps) && belongs setting.net (plan_now setting steps) d ⟹ not (is_untouched (seen_of steps) d)

-- C1: census

-- once all have started, a member that did not fail in the era is up
abbrev pub member_is_up : Setting → List Step → ℕ → Bool
member_is_up setting steps d = not (is_beginning setting steps) && belongs setting.net (plan_now setting steps) d
    && not (device_failed_now steps d) ⟹ is_up (seen_of steps) d

-- a member that is up and did not fail in the era is old or new
abbrev pub member_follows : Setting → List Step → ℕ → Bool
member_follows setting steps d =
    is_member (plan_now setting steps) d && not (device_failed_now steps d) && is_up (seen_of steps) d ⟹ is_old steps d || is_new steps d

-- a member that is up again after it failed in the era joined in the open window, and is blank or new
abbrev pub returned_is_joined : Setting → List Step → ℕ → Bool
returned_is_joined setting steps d =
    is_member (plan_now setting steps) d && device_failed_now steps d && is_up (seen_of steps) d ⟹ joined_in_window (seen_of steps) d
    && (is_blank steps d || is_new steps d)

-- a device that is up and no member is past, or joined in the open window and is blank or new
abbrev pub outsider_is_past : Setting → List Step → ℕ → Bool
outsider_is_past setting steps d =
    is_up (seen_of steps) d && not (is_member (plan_now setting steps) d)
    ⟹ is_past steps d || (joined_in_window (seen_of steps) d && (is_blank steps d || is_new steps d))

-- a device that counts as live is not past
abbrev pub counted_is_current : Setting → List Step → ℕ → Bool
counted_is_current setting steps d = is_counted setting (seen_of steps) d ⟹ not (is_past steps d)

-- a blank device has no parent and does not act
abbrev pub blank_is_idle : List Step → ℕ → Bool
blank_is_idle steps d = is_blank steps d ⟹ not (is_some (parent_in steps d)) && not (acts_in steps d)

-- a link of the plan that did not fail in the era is not failed
abbrev pub link_is_sound : Setting → List Step → ℕ → Bool
link_is_sound setting steps l = is_present (plan_now setting steps) l && not (link_failed_now steps l) ⟹ not (link_has_failed (seen_of steps) l)

-- C2: roles

-- the root acts while it is up and did not fail in the era
abbrev pub root_acts : Setting → List Step → Bool
root_acts setting steps = root_lives setting steps ⟹ acts_in steps (plan_now setting steps).root

-- a root that failed in the era is not old
abbrev pub failed_root_is_not_old : Setting → List Step → Bool
failed_root_is_not_old setting steps = root_failed setting steps ⟹ not (is_old steps (plan_now setting steps).root)

-- an old device other than root and backup root does not act
abbrev pub ordinary_follows : Setting → List Step → ℕ → Bool
ordinary_follows setting steps d = is_old steps d && is_ordinary (plan_now setting steps) d ⟹ not (acts_in steps d)

-- C3: backup

-- the backup root acts, in the plan in force or by its commit
abbrev pub backup_root_acts : Setting → List Step → Bool
backup_root_acts setting steps = acts_in steps (plan_now setting steps).backup_root

-- an old ordinary device on its backup is hit, and it is hit otherwise or the backup root acts
abbrev pub backup_is_caused : Setting → List Step → ℕ → Bool
backup_is_caused setting steps d =
    is_old steps d && is_ordinary (plan_now setting steps) d && moved steps d
    ⟹ hit setting steps d && (hit_otherwise setting steps d || backup_root_acts setting steps)

-- C4: takeover

-- where an old backup root has moved, and so where it has taken over, its path is hit
abbrev pub move_is_caused : Setting → List Step → Bool
move_is_caused setting steps =
    let b = (plan_now setting steps).backup_root in
    is_old steps b && moved steps b ⟹ path_hit setting steps b

-- the backup root acts only where the root failed in the era
abbrev pub takeover_is_caused : Setting → List Step → Bool
takeover_is_caused setting steps = backup_root_acts setting steps ⟹ root_failed setting steps

-- C5: path of the backup root

-- the devices above the backup root
abbrev pub above_backup_root : Setting → List Step → List ℕ
above_backup_root setting steps =
    let plan = plan_now setting steps in map (λ hop. hop.parent) (walk setting.net plan plan.backup_root)

-- the backup root is old and on its primary
abbrev pub backup_root_stays : Setting → List Step → Bool
backup_root_stays setting steps = let b = (plan_now setting steps).backup_root in is_old steps b && on_primary steps b

-- no old device above the backup root, but for the root, is on its backup while the backup root is on its primary
abbrev pub path_stays : Setting → List Step → ℕ → Bool
path_stays setting steps x =
    backup_root_stays setting steps && has (above_backup_root setting steps) x && not (is_root (plan_now setting steps) x)
    && is_old steps x ⟹ not (moved steps x)

-- C6: shadow

-- the old devices above a backup root on its primary heard not much earlier than it
abbrev pub shadow_is_short : Setting → List Step → ℕ → Bool
shadow_is_short setting steps x =
    let plan = plan_now setting steps in
    backup_root_stays setting steps && has (above_backup_root setting steps) x && not (is_root plan x) && is_old steps x
    ⟹ nat_le (heard_at steps plan.backup_root) (heard_at steps x + max (depth setting.net * delay setting.net) (tick_gap setting.net))

-- C7: fallback

-- the backup root is old and has moved
abbrev pub backup_root_moved : Setting → List Step → Bool
backup_root_moved setting steps = let b = (plan_now setting steps).backup_root in is_old steps b && moved steps b

-- where an old backup root has moved, no device of its fallback but the root failed in the era
abbrev pub fallback_device_is_sound : Setting → List Step → ℕ → Bool
fallback_device_is_sound setting steps x =
    backup_root_moved setting steps && has (fallback_devices setting.net (plan_now setting steps)) x ⟹ not (device_failed_now steps x)

-- nor a link of it
abbrev pub fallback_link_is_sound : Setting → List Step → ℕ → Bool
fallback_link_is_sound setting steps l =
    backup_root_moved setting steps && has (fallback_links setting.net (plan_now setting steps)) l ⟹ not (link_failed_now steps l)

-- and up to its takeover its old devices are on their primaries
abbrev pub fallback_stays : Setting → List Step → ℕ → Bool
fallback_stays setting steps x =
    backup_root_moved setting steps && not (backup_root_acts setting steps) && has (fallback_devices setting.net (plan_now setting steps)) x && is_old steps x
    ⟹ not (moved steps x)

-- C8: no window, or before its commit

-- no device is new before a commit
abbrev pub none_is_new : List Step → ℕ → Bool
none_is_new steps d = not (has_commit (seen_of steps)) ⟹ not (is_new steps d)

-- and no message was sent in the staged epoch
abbrev pub none_sent_ahead : List Step → Bool
none_sent_ahead steps = not (has_commit (seen_of steps)) ⟹ list_all (λ f. nat_le f.message.epoch (era steps)) (flights steps)

-- nothing is sealed before a commit
abbrev pub none_sealed_early : List Step → Bool
none_sealed_early steps = not (has_commit (seen_of steps)) ⟹ not (in_window (λ s. is_seal s.event) (seen_of steps))

-- the event fails something
abbrev pub is_failure : Seen → Bool
is_failure s = is_some (failure_of s.event)

-- the event mends something
abbrev pub is_mend : Seen → Bool
is_mend s = is_some (mended s.event)

-- the event starts a device
abbrev pub is_start : Seen → Bool
is_start s = is_some (started s.event)

-- the event lets a device join
abbrev pub is_join : Seen → Bool
is_join s = is_some (joined s.event)

-- nothing starts after a stage
abbrev pub none_started_late : List Step → Bool
none_started_late steps = none_after (λ s. is_stage s.event) is_start (seen_of steps)

-- nothing fails after the first mend of the open window
abbrev pub none_fails_after_mend : List Step → Bool
none_fails_after_mend steps = none_after_in_window is_mend is_failure (seen_of steps)

-- C9: after the commit of the open window

-- after the commit nothing fails, is mended, starts or joins
abbrev pub rests_after_commit : List Step → Bool
rests_after_commit steps = none_after_in_window (λ s. is_commit s.event) (λ s. is_failure s || is_mend s || is_start s || is_join s) (seen_of steps)

-- the reference of the open window's commit
abbrev pub commit_at : List Step → ℕ
commit_at steps = map_or (window (seen_of steps)) 0 (λ w. find_map_or (λ s. if is_commit s.event then Some (reference_of s.event) else None) w 0)

-- a member of the staged plan is new, or old or blank with its duty given
abbrev pub member_enters : Setting → List Step → ℕ → Bool
member_enters setting steps d =
    has_commit (seen_of steps) && will_belong setting steps d
    ⟹ is_new steps d || ((is_old steps d || is_blank steps d) && same_number (given_in steps d) (staged_epoch (seen_of steps)))

-- soon it is new
abbrev pub member_entered : Setting → List Step → ℕ → Bool
member_entered setting steps d =
    has_commit (seen_of steps) && will_belong setting steps d
    && nat_lt (commit_at steps + rounds_gap setting.net + depth setting.net * delay setting.net) (latest_reference (seen_of steps))
    ⟹ is_new steps d

-- the root of the staged plan, which commits: the root, or where that failed the backup root
abbrev pub staged_root : Setting → List Step → ℕ
staged_root setting steps = map_or (staged setting (seen_of steps)) 0 (λ plan. plan.root)

-- after a commit the root of the staged plan is new, and it is the root, or where that failed the backup root
abbrev pub committer_is_root : Setting → List Step → Bool
committer_is_root setting steps =
    has_commit (seen_of steps)
    ⟹ nat_eq (staged_root setting steps) (if root_failed setting steps then (plan_now setting steps).backup_root else (plan_now setting steps).root)
    && is_new steps (staged_root setting steps)

-- it acts, and no other counted device
abbrev pub committer_acts : Setting → List Step → ℕ → Bool
committer_acts setting steps d =
    has_commit (seen_of steps) && is_counted setting (seen_of steps) d
    ⟹ (if nat_eq d (staged_root setting steps) then acts_in steps d else not (acts_in steps d))

-- going along parents leads from d to the staged root in at most as many steps as a path may have
abbrev pub leads_to_root : Setting → List Step → ℕ → Bool
leads_to_root setting steps d = list_any (λ n. same_number (follow (parent_in steps) n d) (staged_root setting steps)) (below (depth setting.net + 1))

-- a new device other than the staged root is on its primary, its parent is new, and parents lead from it to the staged root
abbrev pub new_is_linked : Setting → List Step → ℕ → Bool
new_is_linked setting steps d =
    is_new steps d && not (nat_eq d (staged_root setting steps))
    ⟹ on_primary steps d && map_or (parent_in steps d) false (is_new steps) && leads_to_root setting steps d

-- some member of the first plan has neither started, nor joined, nor failed
abbrev pub someone_untouched : Setting → List Step → ℕ → Bool
someone_untouched setting steps d = is_member (plan_numbered setting 1) d && is_untouched (seen_of steps) d

-- a member that is up and left out of the staged plan is hit and is neither root nor backup root
abbrev pub left_out_is_hit : Setting → List Step → ℕ → Bool
left_out_is_hit setting steps d =
    has_commit (seen_of steps) && is_up (seen_of steps) d && is_member (plan_now setting steps) d && not (is_staged_member setting (seen_of steps) d)
    ⟹ hit setting steps d && is_ordinary (plan_now setting steps) d

-- or a member of the first plan is untouched, and all have still time to start
abbrev pub begins_with : Setting → List Step → ℕ → Bool
begins_with setting steps d = someone_untouched setting steps d && is_beginning setting steps

-- C10: closing

-- the window closed with the latest event
abbrev pub just_closed : List Step → Bool
just_closed [] = false
just_closed (s ∷ earlier) = s.seen.closed

-- after a closing each member is up, of the plan and sealed, and on its primary with a short silence, or it is the root and acts
abbrev pub member_begins : Setting → List Step → ℕ → Bool
member_begins setting steps d =
    just_closed steps && belongs setting.net (plan_now setting steps) d
    ⟹ has_settled steps (era steps) d
    && (if is_root (plan_now setting steps) d then acts_in steps d
    else on_primary steps d && nat_le (latest_reference (seen_of steps)) (heard_at steps d + silence setting.net))

-- the root sent not long ago
abbrev pub root_begins : Setting → List Step → Bool
root_begins setting steps =
    just_closed steps ⟹ nat_le (latest_reference (seen_of steps)) (sent_at steps (plan_now setting steps).root + round_gap setting.net)

-- no link of the plan is failed
abbrev pub link_begins : Setting → List Step → ℕ → Bool
link_begins setting steps l = just_closed steps && is_present (plan_now setting steps) l ⟹ not (link_has_failed (seen_of steps) l)

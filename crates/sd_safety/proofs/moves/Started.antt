-- The step of a start: what it leaves alone, and that the core holds after it. The device is old, on its primary or acting as the root; nobody has moved,
-- nothing has failed of it, and no window is open.
use Rattle.std.specs.Prelude.{◌≡◌, ℕ, ◌+◌, ◌*◌, ◌<◌, ◌≤◌, Bool, true, false, ◌&&◌, ◌||◌, not, List, [], ◌∷◌, length, max, nat_eq, nat_le, Option, Some, None, option_map, IsTrue, refl, if◌then◌else◌}
use Rattle.std.specs.List.{list_any, list_all}
use Rattle.std.proofs.Common.{arith, ◌∙◌, ap, sym, subst}
use Rattle.std.proofs.lemmas.Bool.{and_parts, and_from, and_left, and_right, or_parts, or_left, eqb-true, eq-eqb, leb-true, le-leb, false_from_ne_true, both_ways, not-true}
use Rattle.sd_num.specs.Lists.{map_or, same_number, has}
use Rattle.sd_plan.specs.topo.Network.{device_numbers}
use Rattle.sd_plan.specs.declared.topo.Thing.TheVariants as thing
use Rattle.sd_plan.specs.declared.Plan.{Plan}
use Rattle.sd_plan.specs.declared.Role.{Role}
use Rattle.sd_plan.specs.declared.Role.TheVariants as role
use Rattle.sd_plan.specs.Plans.{is_member, is_root, is_backup_root}
use Rattle.sd_plan.specs.Duties.{duty_of}
use Rattle.sd_device.specs.Calls as calls
use Rattle.sd_device.specs.Calls.{Past}
use Rattle.sd_sched.specs.declared.Event.{Event}
use Rattle.sd_sched.specs.declared.Event.TheVariants as event
use Rattle.sd_sched.specs.Events.{joined, is_stage, is_commit}
use Rattle.sd_history.specs.World.{Setting, Seen, is_up, has_failed, was_made, has_ever_failed, is_untouched, window, has_commit, epoch_in_force, staged_epoch, staged, in_force, plan_numbered, is_counted, joined_in_window}
use Rattle.sd_history.specs.Steps.{Makes, Answers, tells_made, Step, seen_of, act_by, answers_in, live_answers, epoch_in, acts_in, flights, first_step, activated_by, acted_by}
use Rattle.sd_history.specs.Chronicle.{new_past, answers_by, told_by, chronicle, next_step}
use Rattle.sd_history.specs.Premises.{ticks_in_time, tick_holds, first_reference}
use Rattle.sd_history.proofs.Among.{all_pass}
use Rattle.sd_history.proofs.Clear.{clear}
use Rattle.sd_safety.specs.invariant.Bounds.{depth, delay, tick_gap}
use Rattle.sd_safety.specs.invariant.Eras.{era, plan_now, device_failed_now, is_old, is_new, is_blank, is_past, moved, heard_at, is_ordinary, root_lives, root_failed, hit, beginning, belongs}
use Rattle.sd_safety.specs.invariant.Clauses.{is_beginning, nothing_emitted, stays, member_follows, returned_is_joined, outsider_is_past, counted_is_current, blank_is_idle, root_acts, failed_root_is_not_old, ordinary_follows, backup_is_caused, move_is_caused, takeover_is_caused, path_stays, above_backup_root, backup_root_stays, shadow_is_short, none_sent_ahead, staged_root, left_out_is_hit}
use Rattle.sd_safety.specs.invariant.Invariant.{Core}
use Rattle.sd_safety.specs.invariant.Kept.{Keeps}
use Rattle.sd_safety.specs.invariant.Coming.{IsNextEvent}
use Rattle.sd_safety.proofs.invariant.Orders.{renews}
use Rattle.sd_safety.proofs.invariant.Closings.{start_closes_none, starts_unstaged}
use Rattle.sd_safety.specs.timers.Times as times
use Rattle.sd_safety.proofs.invariant.Known.{old_is_up}
use Rattle.sd_safety.specs.timers.Times.{AreTimed, heard_in}
use Rattle.sd_safety.proofs.timers.CalmBeginning.{counts_from_first}
use Rattle.sd_safety.proofs.timers.Periods.{reference_within}
use Rattle.sd_history.proofs.Known.{admitted_named_is_known, up_has_past}
use Rattle.sd_safety.proofs.timers.Histories.{Timely, timed}
use Rattle.sd_safety.proofs.waits.SameReferences.{heard_is}
use Rattle.sd_safety.proofs.waits.Beginning.{quiet, still}
use Rattle.sd_safety.proofs.waits.LeastWaits.{timely_of, starts_in_time}
use Rattle.sd_safety.proofs.invariant.Empty.{core_before, asks_nothing}
use Rattle.sd_safety.proofs.moves.Happened.{HasRoots, roots_of}
use Rattle.sd_safety.proofs.moves.Starts.{IsUnstaged, no_window, first_era, none_mended, never_failed, not_among}
use Rattle.sd_safety.proofs.invariant.Opening.{gives}

plan_in : (u n : Bool) → u ≡ true → (not u || n) ≡ true → n ≡ true
plan_in true n is h = h
plan_in false n is h = cc

begins_root : (root backup : Bool) → root ≡ true
    → (elim (if root then role.Root else if backup then role.BackupRoot else role.Ordinary) as (λ (x : Role). Bool) [ role.Root ↦ true | _ ↦ false ] || false)
    ≡ true
begins_root true backup is = refl
begins_root false backup is = cc

begins_other : (root backup : Bool) → root ≡ false
    → (elim (if root then role.Root else if backup then role.BackupRoot else role.Ordinary) as (λ (x : Role). Bool) [ role.Root ↦ true | _ ↦ false ] || false)
    ≡ false
begins_other true backup is = cc
begins_other false true is = refl
begins_other false false is = refl

in_beginning : (b m u : Bool) → b ≡ true → (not (not b && m) || u) ≡ true
in_beginning true m u is = refl
in_beginning false m u is = cc

in_beginning_more : (b m f u : Bool) → b ≡ true → (not (not b && m && f) || u) ≡ true
in_beginning_more true m f u is = refl
in_beginning_more false m f u is = cc

unmoved : (b m : Bool) → (not b || not m) ≡ true → b ≡ true → m ≡ false
unmoved true true h is = cc
unmoved true false h is = refl
unmoved false m h is = cc

not_old_past : (up old new blank : Bool) → old ≡ true → (up && not (old || new || blank)) ≡ false
not_old_past true true new blank o = refl
not_old_past true false new blank o = cc
not_old_past false old new blank o = refl

module _ (setting : Setting) (r d c clock eps : ℕ) (history : List Event) (comes : IsNextEvent setting history (event.Start r d c clock eps)) where
  abbrev steps : List Step
  steps = chronicle setting history

  abbrev plan : Plan
  plan = plan_now setting (chronicle setting history)

  abbrev pub made : Past
  made = new_past (calls.Started (duty_of setting.net (in_force setting (seen_of steps)) (epoch_in_force (seen_of steps)) d) c clock eps)

  abbrev pub begun : Step
  begun = first_step setting (chronicle setting history) (event.Start r d c clock eps)
      (told_by (chronicle setting history) (act_by setting (chronicle setting history) (event.Start r d c clock eps)))

  abbrev pub start_step : Bool → Step
  start_step closed =
      record {
        seen = record {
          event = event.Start r d c clock eps;
          taken = None;
          sent = [];
          activated = activated_by (chronicle setting history) begun;
          acted = acted_by (chronicle setting history) (event.Start r d c clock eps);
          closed = closed;
        };
        act = Makes d (calls.Started (duty_of setting.net (in_force setting (seen_of steps)) (epoch_in_force (seen_of steps)) d) c clock eps);
        told = tells_made (answers_by made);
        sent = [];
      }

  abbrev pub now : List Step
  now = start_step false ∷ chronicle setting history

  pub now_is : chronicle setting (event.Start r d c clock eps ∷ history) ≡ now
  now_is = ap (λ b. start_step b ∷ chronicle setting history) (start_closes_none setting history r d c clock eps comes.clean)

  core_then : Core setting (chronicle setting history)
  core_then = core_before setting history (event.Start r d c clock eps) comes

  timely_now : Timely setting (event.Start r d c clock eps ∷ history)
  timely_now = timely_of setting (event.Start r d c clock eps ∷ history) comes.fair comes.clean

  roots : HasRoots setting.net plan
  roots = roots_of setting history comes.fair comes.clean.is.0

  -- No stage came before

  unstaged : IsUnstaged (seen_of (chronicle setting history))
  unstaged = starts_unstaged (list_any (λ x. is_stage x.event) (seen_of (chronicle setting history))) _
      (renews setting (event.Start r d c clock eps) history comes.clean).begins

  shut : window (seen_of (chronicle setting history)) ≡ None
  shut = no_window (seen_of (chronicle setting history)) unstaged

  pub one : era (chronicle setting history) ≡ 1
  one = first_era setting history unstaged

  no_commit : has_commit (seen_of now) ≡ false
  no_commit = ap (λ (w : Option (List Seen)). map_or (option_map (λ v. (start_step false).seen ∷ v) w) false (list_any (λ x. is_commit x.event))) shut

  no_commit_then : has_commit (seen_of (chronicle setting history)) ≡ false
  no_commit_then = ap (λ (w : Option (List Seen)). map_or w false (list_any (λ x. is_commit x.event))) shut

  -- What is not refused

  member : is_member plan d ≡ true
  member = by (is_member plan d)
      (or_parts (not (is_member plan d) || false) false
      (clear setting (chronicle setting history) (event.Start r d c clock eps) comes.clean.is.1).is_member).0
    where
      by : (b : Bool) → (not b || false) ≡ false → b ≡ true
      by true h = refl
      by false h = cc

  pub unmade : was_made (seen_of (chronicle setting history)) d ≡ false
  unmade = (or_parts (was_made (seen_of (chronicle setting history)) d) false
      (clear setting (chronicle setting history) (event.Start r d c clock eps) comes.clean.is.1).started_once).0

  sound : has_failed (seen_of (chronicle setting history)) (thing.Device d) ≡ false
  sound = (clear setting (chronicle setting history) (event.Start r d c clock eps) comes.clean.is.1).device_works

  known : d < length setting.net.devices
  known = admitted_named_is_known setting (chronicle setting history) (event.Start r d c clock eps) d comes.clean.is.1 refl

  unfailed : has_ever_failed (seen_of (chronicle setting history)) d ≡ false
  unfailed = never_failed (seen_of (chronicle setting history)) (thing.Device d) (none_mended setting history comes.clean.is.0 unstaged) sound

  sound_now : device_failed_now (chronicle setting history) d ≡ false
  sound_now = not_among (seen_of (chronicle setting history)) (thing.Device d) unfailed

  -- Members may start yet
  pub starts_by : is_beginning setting now ≡ true
  starts_by =
      let s : Seen = (next_step setting (chronicle setting history) (event.Start r d c clock eps)).seen in
      let all = and_parts (tick_holds setting (seen_of (chronicle setting history)))
      (ticks_in_time setting s (seen_of (chronicle setting history))) timely_now.ticks in
      let first_member : is_member (plan_numbered setting 1) d ≡ true = subst (λ n. is_member (plan_numbered setting n) d ≡ true) one member in
      let untouched : is_untouched (seen_of (chronicle setting history)) d ≡ true =
      and_from (not (was_made (seen_of (chronicle setting history)) d)) (not (has_ever_failed (seen_of (chronicle setting history)) d)) (ap not unmade)
      (ap not unfailed) in
      let in_time =
      plan_in (is_untouched (seen_of (chronicle setting history)) d)
      (nat_le r (first_reference (seen_of (chronicle setting history)) s + setting.net.params.tick)) untouched
      (starts_in_time setting s (seen_of (chronicle setting history)) d known first_member all.1) in
      and_from (nat_eq (era now) 1) (nat_le r (beginning (seen_of now) + tick_gap setting.net)) (eq-eqb (era now) 1 one)
      (subst (λ n. nat_le r (beginning (seen_of n) + tick_gap setting.net) ≡ true) now_is in_time)

  -- What the step leaves alone

  up_other : (x : ℕ) → nat_eq d x ≡ false → is_up (seen_of now) x ≡ is_up (seen_of steps) x
  up_other x other = ap (λ b. map_or (if b || false then Some true else None) (is_up (seen_of steps) x) (λ y. y)) other

  up_here : is_up (seen_of now) d ≡ true
  up_here = ap (λ b. map_or (if b || false then Some true else None) (is_up (seen_of steps) d) (λ y. y)) (eq-eqb d d refl)

  live_other : (x : ℕ) → nat_eq d x ≡ false → live_answers now x ≡ live_answers steps x
  live_other x other =
      ap (λ u. if u then map_or (if nat_eq d x then Some (Some (answers_by made)) else None) (answers_in steps x) (λ o. o) else None) (up_other x other)
      ∙ ap (λ b. if is_up (seen_of steps) x then map_or (if b then Some (Some (answers_by made)) else None) (answers_in steps x) (λ o. o) else None) other

  live_here : live_answers now d ≡ Some (answers_by made)
  live_here =
      ap (λ u. if u then map_or (if nat_eq d d then Some (Some (answers_by made)) else None) (answers_in steps d) (λ o. o) else None) up_here
      ∙ ap (λ b. map_or (if b then Some (Some (answers_by made)) else None) (answers_in steps d) (λ o. o)) (eq-eqb d d refl)

  epoch_here : epoch_in now d ≡ Some (era steps)
  epoch_here = ap (λ (o : Option Answers). option_map (λ a. a.epoch) o) live_here

  epoch_other : (x : ℕ) → nat_eq d x ≡ false → epoch_in now x ≡ epoch_in steps x
  epoch_other x other = ap (λ (o : Option Answers). option_map (λ a. a.epoch) o) (live_other x other)

  old_here : is_old now d ≡ true
  old_here = ap (λ o. same_number o (era steps)) epoch_here ∙ eq-eqb (era steps) (era steps) refl

  acts_root : is_root plan d ≡ true → acts_in now d ≡ true
  acts_root root = ap (λ (o : Option Answers). map_or o false (λ a. a.acts)) live_here ∙ begins_root (is_root plan d) (is_backup_root plan d) root

  acts_not : is_root plan d ≡ false → acts_in now d ≡ false
  acts_not other = ap (λ (o : Option Answers). map_or o false (λ a. a.acts)) live_here ∙ begins_other (is_root plan d) (is_backup_root plan d) other

  joined_same : (x : ℕ) → joined_in_window (seen_of now) x ≡ joined_in_window (seen_of steps) x
  joined_same x = go (window (seen_of steps))
    where
      go : (w : Option (List Seen))
          → map_or (option_map (λ v. (start_step false).seen ∷ v) w) false (list_any (λ s. same_number (joined s.event) x))
          ≡ map_or w false (list_any (λ s. same_number (joined s.event) x))
      go None = refl
      go (Some v) = refl

  nobody_moved : (x : ℕ) → moved now x ≡ false
  nobody_moved x =
      unmoved (is_beginning setting now) (moved now x)
      (subst (λ n. stays setting n x ≡ true) now_is (still setting (event.Start r d c clock eps ∷ history) comes.fair comes.clean x)) starts_by

  by_device : (P : ℕ → Type 0) → P d → ((x : ℕ) → nat_eq d x ≡ false → P x) → (x : ℕ) → P x
  by_device P here others x = go (nat_eq d x) refl
    where
      go : (b : Bool) → nat_eq d x ≡ b → P x
      go true is = subst P (eqb-true d x is) here
      go false is = others x is

  -- C1

  follow_all : (x : ℕ) → IsTrue (member_follows setting now x)
  follow_all =
      by_device (λ x. IsTrue (member_follows setting now x)) (gives _ (is_old now d || is_new now d) (λ all. or_left (is_old now d) (is_new now d) old_here))
      (λ x other. rw (epoch_other x other, up_other x other) (core_then.census.members_follow x))

  returned : (x : ℕ) → IsTrue (returned_is_joined setting now x)
  returned =
      by_device (λ x. IsTrue (returned_is_joined setting now x))
      (asks_nothing (is_member plan d && device_failed_now steps d && is_up (seen_of now) d) _
      (false_from_ne_true (is_member plan d && device_failed_now steps d && is_up (seen_of now) d)
      (λ all. both_ways (device_failed_now steps d) sound_now
      (and_parts (is_member plan d) (device_failed_now steps d)
      (and_parts (is_member plan d && device_failed_now steps d) (is_up (seen_of now) d) all).0).1)))
      (λ x other. rw (epoch_other x other, up_other x other, joined_same x) (core_then.census.returned x))

  outsiders : (x : ℕ) → IsTrue (outsider_is_past setting now x)
  outsiders =
      by_device (λ x. IsTrue (outsider_is_past setting now x))
      (asks_nothing (is_up (seen_of now) d && not (is_member plan d)) _ (and_right (is_up (seen_of now) d) (not (is_member plan d)) (ap not member)))
      (λ x other. rw (epoch_other x other, up_other x other, joined_same x) (core_then.census.outsiders x))

  current : (x : ℕ) → IsTrue (counted_is_current setting now x)
  current =
      by_device (λ x. IsTrue (counted_is_current setting now x))
      (gives (is_counted setting (seen_of now) d) (not (is_past now d))
      (λ counted. ap not (not_old_past (is_up (seen_of now) d) (is_old now d) (is_new now d) (is_blank now d) old_here)))
      (λ x other. rw (epoch_other x other, up_other x other, joined_same x) (core_then.census.current x))

  not_blank : is_blank now d ≡ false
  not_blank = ap (λ o. same_number o 0) epoch_here ∙ ap (λ n. nat_eq n 0) one

  idle : (x : ℕ) → IsTrue (blank_is_idle now x)
  idle =
      by_device (λ x. IsTrue (blank_is_idle now x)) (asks_nothing (is_blank now d) _ not_blank)
      (λ x other. rw (live_other x other) (core_then.census.blanks x))

  -- C2

  roots_act : IsTrue (root_acts setting now)
  roots_act = go (nat_eq d plan.root) refl
    where
      go : (b : Bool) → nat_eq d plan.root ≡ b → IsTrue (root_acts setting now)
      go true is =
          let same : d ≡ plan.root = eqb-true d plan.root is in
          gives (root_lives setting now) (acts_in now plan.root) (λ lives. subst (λ y. acts_in now y ≡ true) same (acts_root (eq-eqb plan.root d (sym same))))
      go false other = rw (live_other plan.root other, up_other plan.root other) core_then.roles.root

  failed_root : IsTrue (failed_root_is_not_old setting now)
  failed_root = go (nat_eq d plan.root) refl
    where
      go : (b : Bool) → nat_eq d plan.root ≡ b → IsTrue (failed_root_is_not_old setting now)
      go true is = asks_nothing (root_failed setting now) _ (subst (λ y. device_failed_now steps y ≡ false) (eqb-true d plan.root is) sound_now)
      go false other = rw (epoch_other plan.root other) core_then.roles.failed_root

  ordinary_idle : (x : ℕ) → IsTrue (ordinary_follows setting now x)
  ordinary_idle =
      by_device (λ x. IsTrue (ordinary_follows setting now x))
      (gives (is_old now d && is_ordinary plan d) (not (acts_in now d))
      (λ all.
      let ordinary : is_ordinary plan d ≡ true = (and_parts (is_old now d) (is_ordinary plan d) all).1 in
      let two = and_parts (is_member plan d) (not (is_root plan d))
      (and_parts (is_member plan d && not (is_root plan d)) (not (is_backup_root plan d)) ordinary).0 in
      ap not (acts_not (not-true (is_root plan d) two.1))))
      (λ x other. rw (epoch_other x other, live_other x other) (core_then.roles.ordinary x))

  -- C3 to C6

  caused : (x : ℕ) → IsTrue (backup_is_caused setting now x)
  caused x = asks_nothing (is_old now x && is_ordinary plan x && moved now x) _ (and_right (is_old now x && is_ordinary plan x) (moved now x) (nobody_moved x))

  move_caused : IsTrue (move_is_caused setting now)
  move_caused =
      asks_nothing (is_old now plan.backup_root && moved now plan.backup_root) _
      (and_right (is_old now plan.backup_root) (moved now plan.backup_root) (nobody_moved plan.backup_root))

  takeover_caused : IsTrue (takeover_is_caused setting now)
  takeover_caused = go (nat_eq d plan.backup_root) refl
    where
      go : (b : Bool) → nat_eq d plan.backup_root ≡ b → IsTrue (takeover_is_caused setting now)
      go true is =
          let same : d ≡ plan.backup_root = eqb-true d plan.backup_root is in
          asks_nothing (acts_in now plan.backup_root) _
          (subst (λ y. acts_in now y ≡ false) same
          (acts_not (false_from_ne_true (is_root plan d)
          (λ root. both_ways (nat_eq plan.backup_root plan.root) roots.apart
          (eq-eqb plan.backup_root plan.root (sym same ∙ sym (eqb-true plan.root d root)))))))
      go false other = rw (live_other plan.backup_root other) core_then.causes.takeover

  path_put : (x : ℕ) → IsTrue (path_stays setting now x)
  path_put x = gives _ (not (moved now x)) (λ all. ap not (nobody_moved x))

  abbrev all : List Step
  all = chronicle setting (event.Start r d c clock eps ∷ history)

  shadow : (x : ℕ) → IsTrue (shadow_is_short setting now x)
  shadow x =
      subst (λ n. IsTrue (shadow_is_short setting n x)) now_is
      (gives (backup_root_stays setting all && has (above_backup_root setting all) x && not (is_root (plan_now setting all) x) && is_old all x)
      (nat_le (heard_at all (plan_now setting all).backup_root) (heard_at all x + max (depth setting.net * delay setting.net) (tick_gap setting.net)))
      (λ is.
      let old : is_old all x ≡ true =
      (and_parts (backup_root_stays setting all && has (above_backup_root setting all) x && not (is_root (plan_now setting all) x)) (is_old all x) is).1 in
      let past = up_has_past setting (event.Start r d c clock eps ∷ history) x (old_is_up all x old) in
      let from : beginning (seen_of all) ≤ heard_in all x =
      counts_from_first times.hears setting (next_step setting (chronicle setting history) (event.Start r d c clock eps))
      (chronicle setting history) all_timed x past.0 past.1 in
      let to : heard_in all (plan_now setting all).backup_root ≤ r = reference_within times.hears setting all all_timed (plan_now setting all).backup_root in
      le-leb (heard_at all (plan_now setting all).backup_root) (heard_at all x + max (depth setting.net * delay setting.net) (tick_gap setting.net))
      (near (heard_at all (plan_now setting all).backup_root) (heard_at all x) (beginning (seen_of all)) (tick_gap setting.net)
      (depth setting.net * delay setting.net)
      (subst (λ h. h ≤ r) (sym (heard_is setting all all_timed (plan_now setting all).backup_root)) to)
      (subst (λ h. beginning (seen_of all) ≤ h) (sym (heard_is setting all all_timed x)) from) early)))
    where
      all_timed : AreTimed setting all
      all_timed = timed setting (event.Start r d c clock eps ∷ history) timely_now

      early : r ≤ beginning (seen_of all) + tick_gap setting.net
      early = leb-true r (beginning (seen_of all) + tick_gap setting.net)
          (subst (λ n. nat_le r (beginning (seen_of n) + tick_gap setting.net) ≡ true) (sym now_is)
          (and_parts (nat_eq (era now) 1) (nat_le r (beginning (seen_of now) + tick_gap setting.net)) starts_by).1)

      near : (hb hx b q m : ℕ) → hb ≤ r → b ≤ hx → r ≤ b + q → hb ≤ hx + max m q
      near hb hx b q m to from early = omega (arith, to, from, early)

  -- C8, C9

  new_not : (x : ℕ) → is_new now x ≡ false
  new_not = by_device (λ x. is_new now x ≡ false) here (λ x other. ap (λ o. same_number o (staged_epoch (seen_of steps))) (epoch_other x other) ∙ none_then x)
    where
      here : is_new now d ≡ false
      here =
          ap (λ o. same_number o (era steps + 1)) epoch_here
          ∙ false_from_ne_true (nat_eq (era steps) (era steps + 1)) (λ is. let same : era steps ≡ era steps + 1 = eqb-true (era steps) (era steps + 1) is in
          never (era steps) same)
        where
          never : (n : ℕ) → n ≡ n + 1 → ⊥
          never n same = omega (arith, same)

      none_then : (x : ℕ) → is_new steps x ≡ false
      none_then x = by (has_commit (seen_of steps)) (is_new steps x) (core_then.uncommitted.devices x) no_commit_then
        where
          by : (a b : Bool) → (not (not a) || not b) ≡ true → a ≡ false → b ≡ false
          by true b h is = cc
          by false true h is = cc
          by false false h is = refl

  left_out : (x : ℕ) → left_out_is_hit setting now x ≡ true
  left_out x =
      ap (λ b. not (b && is_up (seen_of now) x && is_member plan x && not (map_or (staged setting (seen_of now)) false (λ p. is_member p x)))
      || (hit setting steps x && is_ordinary plan x)) no_commit

  core_now : Core setting now
  core_now =
      record {
        calm =
            record {
              quiet = subst (λ n. IsTrue (nothing_emitted setting n)) now_is (quiet setting (event.Start r d c clock eps ∷ history) comes.fair comes.clean);
              still = λ x. subst (λ n. IsTrue (stays setting n x)) now_is (still setting (event.Start r d c clock eps ∷ history) comes.fair comes.clean x);
              touched = λ x. in_beginning (is_beginning setting now) (belongs setting.net plan x) _ starts_by;
            };
        census =
            record {
              members_up = λ x. in_beginning_more (is_beginning setting now) (belongs setting.net plan x) (not (device_failed_now now x)) _ starts_by;
              members_follow = follow_all;
              returned = returned;
              outsiders = outsiders;
              current = current;
              blanks = idle;
              links = core_then.census.links;
            };
        roles = record { root = roots_act; failed_root = failed_root; ordinary = ordinary_idle };
        causes = record { backups = caused; move = move_caused; takeover = takeover_caused; path = path_put; shadow = shadow };
        uncommitted = record { devices = λ x. gives (not (has_commit (seen_of now))) (not (is_new now x)) (λ none. ap not (new_not x)); messages = messages };
        committed =
            record {
              entering = λ x. rw no_commit refl;
              entered = λ x. rw no_commit refl;
              committer = rw no_commit refl;
              acting = λ x. rw no_commit refl;
              linked = λ x. asks_nothing (is_new now x && not (nat_eq x (staged_root setting now))) _ (and_left (is_new now x) _ (new_not x));
              left_out = or_left (list_all (left_out_is_hit setting now) (device_numbers setting.net)) _
                  (all_pass (left_out_is_hit setting now) (device_numbers setting.net) (λ x a. left_out x));
            };
        closed = record { members = λ x. refl; root = refl; links = λ l. refl };
      }
    where
      messages : IsTrue (none_sent_ahead now)
      messages =
          gives (not (has_commit (seen_of now))) (list_all (λ f. nat_le f.message.epoch (era now)) (flights now))
          (λ none. plan_in (not (has_commit (seen_of steps))) (list_all (λ f. nat_le f.message.epoch (era steps)) (flights steps))
          (ap not no_commit_then) core_then.uncommitted.messages)

  pub started_keeps : Core setting (chronicle setting (event.Start r d c clock eps ∷ history))
  started_keeps = subst (Core setting) (sym now_is) core_now

-- a start keeps the core
pub start_keeps : (setting : Setting) → (r d c clock eps : ℕ) → Keeps setting (event.Start r d c clock eps)
start_keeps setting r d c clock eps history comes = started_keeps setting r d c clock eps history comes

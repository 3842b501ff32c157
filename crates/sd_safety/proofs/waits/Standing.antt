-- Who stands, before an event: a member that did not fail in the era is up, unless members may start yet; a device heard, or was made, no earlier than
-- the first event; the root leads where it did not fail; and where it failed and the backup root does not act, that is old. From the invariant and the tick
-- premise.
use Rattle.std.specs.Prelude.{◌≡◌, ℕ, ◌+◌, ◌<◌, ◌≤◌, Bool, true, false, ◌&&◌, ◌||◌, not, List, [], ◌∷◌, cond, count_by, filter_map, length, nat_eq, nat_lt, Option, Some, None, refl, if◌then◌else◌}
use Rattle.std.proofs.Common.{arith, ap, sym, subst}
use Rattle.std.proofs.lemmas.Bool.{and_parts, and_from, or_left, or_parts, or_from, eqb-true, eq-eqb, leb-true, lt-ltb, false_from_ne_true, true_from_ne_false, both_ways}
use Rattle.std.proofs.lemmas.List.Sums.{sum_by-cons}
use Rattle.sd_num.specs.Lists.{map_or, leading}
use Rattle.std.specs.List.{cons_option}
use Rattle.sd_plan.specs.domain.Things.{same_thing}
use Rattle.sd_plan.specs.declared.topo.Thing.{Thing}
use Rattle.sd_plan.specs.declared.topo.Thing.TheVariants as thing
use Rattle.sd_plan.specs.Plans.{is_member}
use Rattle.sd_sched.specs.declared.Event.{Event}
use Rattle.sd_sched.specs.Events.{reference_of}
use Rattle.sd_history.specs.Things.{failure_of}
use Rattle.sd_history.specs.World.{Setting, Seen, makes, fails, is_up, was_made, has_ever_failed, is_untouched, epoch_in_force, plan_numbered, has_commit, is_counted}
use Rattle.sd_device.specs.Calls.{Past}
use Rattle.sd_history.specs.Steps.{Step, seen_of, acts_in}
use Rattle.sd_history.specs.Chronicle.{past_in, chronicle, next_step}
use Rattle.sd_history.specs.Premises.{failures_since_closing}
use Rattle.sd_safety.specs.invariant.Eras.{era, plan_now, is_among, device_failed_now, all_started, beginning, is_old, is_new, belongs, root_failed, root_lives, heard_at}
use Rattle.sd_safety.specs.invariant.Clauses.{is_beginning, staged_root}
use Rattle.sd_safety.specs.invariant.Silences.{root_leads}
use Rattle.sd_safety.specs.invariant.Invariant.{Invariant}
use Rattle.sd_safety.specs.invariant.Guarded.{IsSteady}
use Rattle.sd_safety.specs.invariant.Coming.{IsNextEvent}
use Rattle.sd_safety.proofs.invariant.Prefix.{clean_before}
use Rattle.sd_safety.proofs.invariant.Sides.{implied, not_both}
use Rattle.sd_safety.proofs.invariant.Following.{held_now}
use Rattle.sd_safety.specs.timers.Times.{AreTimed, hears}
use Rattle.sd_safety.proofs.timers.CalmBeginning.{counts_from_first}
use Rattle.sd_safety.proofs.timers.Histories.{Timely, timely, timed, before}
use Rattle.sd_safety.proofs.waits.SameReferences.{heard_is}
use Rattle.sd_safety.proofs.waits.LeastWaits.{starts_in_time}
use Rattle.sd_safety.proofs.invariant.Facts.{IsSound, sound_now, not_both_failed}

-- Untouched

made_by : (m f was ever up : Bool) → map_or (if m then Some true else if f then Some false else None) up (λ told. told) ≡ false → (f || ever) ≡ false
    → (up ≡ false → ever ≡ false → (not was && not ever) ≡ true) → (not (m || was) && not (f || ever)) ≡ true
made_by true f was ever up down none rest = cc
made_by false true was ever up down none rest = cc
made_by false false was ever up down none rest = rest down none

-- who is not up and never failed was never made
never_made : (seen : List Seen) (d : ℕ) → is_up seen d ≡ false → has_ever_failed seen d ≡ false → is_untouched seen d ≡ true
never_made [] d down none = refl
never_made (s ∷ seen) d down none =
    made_by (makes d s.event) (fails (thing.Device d) s.event) (was_made seen d) (has_ever_failed seen d) (is_up seen d) down none (never_made seen d)

-- in the first era whoever failed failed in the era
first_open : (c : Bool) (count : ℕ) → cond c 1 0 + count + 1 ≡ 1 → (c ≡ false) × (count + 1 ≡ 1)
first_open true count is = absurd (omega (arith, is))
first_open false count is = (refl, omega (arith, is))

among_here : (x : Thing) (o : Option Thing) (rest : List Thing) → is_among (cons_option o rest) x ≡ false
    → (map_or o false (same_thing x) ≡ false) × (is_among rest x ≡ false)
among_here x None rest none = (refl, none)
among_here x (Some y) rest none = or_parts (same_thing x y) (is_among rest x) none

pub never_failed : (seen : List Seen) (d : ℕ) → epoch_in_force seen ≡ 1 → is_among (failures_since_closing seen) (thing.Device d) ≡ false
    → has_ever_failed seen d ≡ false
never_failed [] d era_ none = refl
never_failed (s ∷ seen) d era_ none =
    let more : count_by (λ x. x.closed) (s ∷ seen) ≡ cond s.closed 1 0 + count_by (λ x. x.closed) seen = sum_by-cons (λ (x : Seen). cond x.closed 1 0) s seen in
    let op = first_open s.closed (count_by (λ x. x.closed) seen) (subst (λ n. n + 1 ≡ 1) more era_) in
    go s.closed refl op.0 none (never_failed seen d op.1)
  where
    go : (c : Bool) → s.closed ≡ c → s.closed ≡ false → is_among (failures_since_closing (s ∷ seen)) (thing.Device d) ≡ false
        → (is_among (failures_since_closing seen) (thing.Device d) ≡ false → has_ever_failed seen d ≡ false)
        → (fails (thing.Device d) s.event || has_ever_failed seen d) ≡ false
    go true is op none' rest = absurd (not_both s.closed is op)
    go false is op none' rest =
        let parts =
        among_here (thing.Device d) (failure_of s.event) (failures_since_closing seen)
        (subst (λ c. is_among (filter_map (λ (x : Seen). failure_of x.event) (if not c then s ∷ leading (λ (x : Seen). not x.closed) seen else []))
        (thing.Device d) ≡ false) is none') in
        or_from (fails (thing.Device d) s.event) (has_ever_failed seen d) parts.0 (rest parts.1)

module _ (setting : Setting) (x : Event) (h : List Event) (e : Event) (comes : IsNextEvent setting (x ∷ h) e) where
  pub now : Invariant setting (chronicle setting (x ∷ h))
  now = comes.before.1

  pub clean : IsSteady setting (x ∷ h)
  clean = clean_before setting e (x ∷ h) comes.clean

  pub times : Timely setting (e ∷ x ∷ h)
  times = timely setting (e ∷ x ∷ h) comes.fair.network comes.clean.is comes.clean.premises

  pub steps_timed : AreTimed setting (chronicle setting (x ∷ h))
  unfolding times
  steps_timed = timed setting (x ∷ h) (before setting e (x ∷ h) times)

  pub sound : IsSound setting.net (plan_now setting (chronicle setting (x ∷ h)))
  sound = sound_now setting (x ∷ h) comes.fair comes.clean.is.0

  -- members may start yet at the event
  abbrev pub Early : Type 0
  Early = (nat_eq (era (chronicle setting (x ∷ h))) 1 ≡ true) × (reference_of e ≤ all_started setting (chronicle setting (x ∷ h)))

  -- up, or early
  up_when : (b u m n f : Bool) → (not (not b && m && not f) || u) ≡ true → b ≡ false → m ≡ true → f ≡ false → u ≡ true
  up_when false true true n false c x y z = refl
  up_when false false true n false c x y z = cc
  up_when false u true n true c x y z = cc
  up_when false u false n f c x y z = cc
  up_when true u m n f c x y z = cc

  late_up : (b : Bool) → is_beginning setting (chronicle setting (x ∷ h)) ≡ b → (d : ℕ) → d < length setting.net.devices
      → is_member (plan_now setting (chronicle setting (x ∷ h))) d ≡ true
      → device_failed_now (chronicle setting (x ∷ h)) d ≡ false → (Early → ⊥) → is_up (seen_of (chronicle setting (x ∷ h))) d ≡ true
  unfolding now times
  late_up false is d known member sound_ late =
      up_when (is_beginning setting (chronicle setting (x ∷ h))) (is_up (seen_of (chronicle setting (x ∷ h))) d)
      (belongs setting.net (plan_now setting (chronicle setting (x ∷ h))) d) true (device_failed_now (chronicle setting (x ∷ h)) d)
      (now.core.census.members_up d) is
      (and_from (nat_lt d (length setting.net.devices)) (is_member (plan_now setting (chronicle setting (x ∷ h))) d)
      (lt-ltb d (length setting.net.devices) known) member) sound_
  late_up true is d known member sound_ late =
      let steps : List Step = chronicle setting (x ∷ h) in
      let one = and_parts (nat_eq (era steps) 1) _ is in
      let era_is : era steps ≡ 1 = eqb-true (era steps) 1 one.0 in
      true_from_ne_false (is_up (seen_of steps) d)
      (λ down.
      let untouched : is_untouched (seen_of steps) d ≡ true = never_made (seen_of steps) d down (never_failed (seen_of steps) d era_is sound_) in
      let in_time =
      starts_in_time setting (next_step setting steps e).seen (seen_of steps) d known
      (subst (λ n. is_member (plan_numbered setting n) d ≡ true) era_is member) (and_parts _ _ times.ticks).1 in
      late (one.0, leb-true (reference_of e) (all_started setting steps) (implied (is_untouched (seen_of steps) d) _ in_time untouched)))

  pub is_up_then : (d : ℕ) → d < length setting.net.devices → is_member (plan_now setting (chronicle setting (x ∷ h))) d ≡ true
      → device_failed_now (chronicle setting (x ∷ h)) d ≡ false → (Early → ⊥) → is_up (seen_of (chronicle setting (x ∷ h))) d ≡ true
  is_up_then d known member sound_ late = late_up (is_beginning setting (chronicle setting (x ∷ h))) refl d known member sound_ late

  -- a device was made or heard no earlier than the first event
  pub heard_late : (d : ℕ) (past : Past) → past_in (chronicle setting (x ∷ h)) d ≡ Some past
      → beginning (seen_of (chronicle setting (x ∷ h))) ≤ heard_at (chronicle setting (x ∷ h)) d
  heard_late d past is =
      subst (λ r. beginning (seen_of (chronicle setting (x ∷ h))) ≤ r) (sym (heard_is setting (chronicle setting (x ∷ h)) steps_timed d))
      (counts_from_first hears setting (next_step setting (chronicle setting h) x) (chronicle setting h) steps_timed d past is)

  -- the root leads where it did not fail
  leads_by : (commit : Bool) (root' r : ℕ) (new : Bool) → (not commit || (nat_eq root' r && new)) ≡ true → (not commit || nat_eq root' r) ≡ true
  leads_by true root' r new clause = (and_parts (nat_eq root' r) new clause).0
  leads_by false root' r new clause = refl

  pub leads : root_failed setting (chronicle setting (x ∷ h)) ≡ false → root_leads setting (chronicle setting (x ∷ h)) ≡ true
  leads sound_ =
      let steps : List Step = chronicle setting (x ∷ h) in
      leads_by (has_commit (seen_of steps)) (staged_root setting steps) (plan_now setting steps).root (is_new steps (staged_root setting steps))
      (subst (λ c. (not (has_commit (seen_of steps))
      || (nat_eq (staged_root setting steps) (if c then (plan_now setting steps).backup_root else (plan_now setting steps).root)
      && is_new steps (staged_root setting steps))) ≡ true) sound_ now.core.committed.committer)

  -- the root lives where it did not fail, unless members may start yet
  pub lives : root_failed setting (chronicle setting (x ∷ h)) ≡ false → (Early → ⊥) → root_lives setting (chronicle setting (x ∷ h)) ≡ true
  unfolding sound
  lives sound_ late =
      let steps : List Step = chronicle setting (x ∷ h) in
      and_from (is_up (seen_of steps) (plan_now setting steps).root) (not (root_failed setting steps))
      (is_up_then (plan_now setting steps).root sound.fits.root sound.rules.root sound_ late) (ap not sound_)

  -- where the root failed, a backup root that does not act is old
  old_by : (member failed up_ old new : Bool) → (not (member && not failed && up_) || (old || new)) ≡ true → member ≡ true → failed ≡ false → up_ ≡ true
      → new ≡ false → old ≡ true
  old_by true false true true new c m f u n = refl
  old_by true false true false true c m f u n = cc
  old_by true false true false false c m f u n = cc
  old_by true false false old new c m f u n = cc
  old_by true true up_ old new c m f u n = cc
  old_by false failed up_ old new c m f u n = cc

  -- a new backup root has committed, and acts
  acts_by : (commit failed new counted acts : Bool) (b s r : ℕ) → (commit ≡ true → nat_eq s (if failed then b else r) ≡ true) → failed ≡ true
      → (not commit ≡ true → not new ≡ true) → new ≡ true
      → (not (commit && counted) || (if nat_eq b s then acts else not acts)) ≡ true → counted ≡ true → acts ≡ true
  acts_by true true new true acts b s r root failed none is clause counted =
      let same : b ≡ s = sym (eqb-true s b (root refl)) in
      subst (λ c. (if c then acts else not acts) ≡ true) (eq-eqb b s same) clause
  acts_by true true new false acts b s r root failed none is clause counted = cc
  acts_by true false new counted acts b s r root failed none is clause counted' = cc
  acts_by false failed new counted acts b s r root failed' none is clause counted' = absurd (both_ways new (no new (none refl)) is)
    where
      no : (n : Bool) → not n ≡ true → n ≡ false
      no true i = cc
      no false i = refl

  pub backup_root_is_old : root_failed setting (chronicle setting (x ∷ h)) ≡ true
      → acts_in (chronicle setting (x ∷ h)) (plan_now setting (chronicle setting (x ∷ h))).backup_root ≡ false → (Early → ⊥)
      → is_old (chronicle setting (x ∷ h)) (plan_now setting (chronicle setting (x ∷ h))).backup_root ≡ true
  unfolding sound now clean
  backup_root_is_old failed still late =
      let steps : List Step = chronicle setting (x ∷ h) in
      let b : ℕ = (plan_now setting steps).backup_root in
      let kept : device_failed_now steps b ≡ false = not_both_failed setting steps (held_now setting x h clean) sound.guarded failed in
      let up_ : is_up (seen_of steps) b ≡ true = is_up_then b sound.fits.backup_root sound.backup_member kept late in
      old_by (is_member (plan_now setting steps) b) (device_failed_now steps b) (is_up (seen_of steps) b) (is_old steps b) (is_new steps b)
      (now.core.census.members_follow b) sound.backup_member kept up_
      (false_from_ne_true (is_new steps b)
      (λ new.
      not_both (acts_in steps b)
      (acts_by (has_commit (seen_of steps)) (root_failed setting steps) (is_new steps b) (is_counted setting (seen_of steps) b) (acts_in steps b) b
      (staged_root setting steps) (plan_now setting steps).root
      (λ commit. (and_parts _ _ (implied (has_commit (seen_of steps)) _ now.core.committed.committer commit)).0) failed
      (λ none. implied (not (has_commit (seen_of steps))) _ (now.core.uncommitted.devices b) none) new (now.core.committed.acting b)
      (and_from (is_up (seen_of steps) b) _ up_ (or_left (is_member (plan_now setting steps) b) _ sound.backup_member))) still))

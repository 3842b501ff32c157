-- A tick with which a device moves to its backup keeps the core: C3 for an ordinary device, by what the silences say; C4 for the backup root; C5, since a
-- device above a backup root on its primary has not been silent for its wait; and the rest as every tick does.
use Rattle.std.specs.Prelude.{◌≡◌, ℕ, ◌≤◌, Bool, true, false, ◌&&◌, ◌||◌, not, List, [], ◌∷◌, nat_eq, nat_le, Option, Some, None, is_some, option_map, IsTrue, refl, if◌then◌else◌}
use Rattle.std.specs.List.{list_all}
use Rattle.std.proofs.Common.{◌∙◌, ap, sym, subst}
use Rattle.std.proofs.lemmas.Bool.{and_parts, and_from, eqb-true, eq-eqb, false_from_ne_true, both_ways, not-true}
use Rattle.sd_num.specs.Lists.{map_or, has}
use Rattle.sd_plan.specs.topo.Network.{Network}
use Rattle.sd_plan.specs.declared.Plan.{Plan}
use Rattle.sd_plan.specs.declared.Hop.{Hop}
use Rattle.sd_plan.specs.Plans.{is_member, is_root, is_backup_root, has_backup, backup_of}
use Rattle.sd_plan.specs.declared.topo.Thing.TheVariants as thing
use Rattle.sd_plan.specs.Walks.{path}
use Rattle.sd_plan.specs.Duties.{duty_of, edge_of}
use Rattle.sd_device.specs.declared.msg.Flight.{Flight}
use Rattle.sd_device.specs.declared.Effect.TheVariants.{Quiet}
use Rattle.sd_device.specs.Calls as calls
use Rattle.sd_device.specs.Calls.{Nothing, Emitted, TookOver, Moved, Past}
use Rattle.sd_device.specs.Words.{transition_of, duty_now, wait_to_move, moves_at, takes_over_at, emits_at, effect_of, effect_of_latest}
use Rattle.sd_device.proofs.Reached.{added}
use Rattle.sd_sched.specs.declared.Event.{Event}
use Rattle.sd_sched.specs.declared.Event.TheVariants as event
use Rattle.sd_history.specs.World.{Setting, is_up, has_commit}
use Rattle.sd_history.specs.Steps.{Answers, Told, Step, seen_of, answers_in, acts_in, tells_nothing, tells_called, flights_by, flights}
use Rattle.sd_history.specs.Chronicle.{answers_by, past_in, chronicle}
use Rattle.sd_history.proofs.Given.{some_is}
use Rattle.sd_history.proofs.Among.{any_passing}
use Rattle.sd_safety.specs.invariant.Bounds.{first_low, wait_low}
use Rattle.sd_safety.specs.invariant.Eras.{era, plan_now, is_old, is_new, is_blank, live_past, moved, on_primary, silent_for, is_ordinary, hit, hit_otherwise, path_hit, root_failed, failed_now, is_among}
use Rattle.sd_safety.specs.invariant.Clauses.{is_beginning, nothing_emitted, stays, root_acts, ordinary_follows, backup_is_caused, move_is_caused, takeover_is_caused, path_stays, above_backup_root, backup_root_stays, backup_root_acts, none_sent_ahead, committer_acts}
use Rattle.sd_safety.specs.invariant.Invariant.{Core}
use Rattle.sd_safety.specs.invariant.Silences.{AreSilent}
use Rattle.sd_safety.specs.invariant.Kept.{KeepsTick}
use Rattle.sd_safety.specs.invariant.Coming.{IsNextEvent, AtNext}
use Rattle.sd_safety.proofs.invariant.Fallback.{from_absurd}
use Rattle.sd_safety.proofs.invariant.Causes.{move_is_hit, move_needs_hit, above_does_not_move, ordinary_parts}
use Rattle.sd_safety.proofs.invariant.CutPaths.{root_on_path}
use Rattle.sd_safety.proofs.timers.NotEarly.{move_waited}
use Rattle.sd_safety.proofs.waits.Waits.{Stands, old_stands, backup_root_moves, ordinary_moves}
use Rattle.sd_safety.specs.invariant.Silences.{EntersSoon}
use Rattle.sd_safety.proofs.waits.Beginning.{quiet, still}
use Rattle.sd_safety.proofs.moves.Ticks as ticks
use Rattle.sd_safety.proofs.moves.Ticks.{tick_step}
use Rattle.sd_safety.proofs.moves.Tickings as tickings
use Rattle.sd_safety.proofs.moves.Tickings.{stays_on}
use Rattle.sd_safety.proofs.moves.Movers.{timely_now, inv, acts_is, known, with_duty_not_blank, from_primary, mover_is_not_new, not_beginning}
use Rattle.sd_safety.proofs.moves.Movers as movers
use Rattle.sd_safety.proofs.moves.Happened.{HasRoots, root_up, roots_then, now_is}
use Rattle.sd_safety.proofs.moves.Happened as happened
use Rattle.sd_safety.proofs.moves.Ends.{backup_root_ends}
use Rattle.sd_safety.proofs.waits.LookingBack.{all_three}
use Rattle.sd_safety.proofs.invariant.Opening.{gives}

moved_when : (e t m : Bool) → (if e then Emitted else if t then TookOver else if m then Moved else Nothing) ≡ Moved → m ≡ true
moved_when true t m is = cc
moved_when false true m is = cc
moved_when false false true is = refl
moved_when false false false is = cc

-- an ordinary device that waits to move has a backup
waits_with_backup : (net : Network) (plan : Plan) (epoch d w : ℕ) → is_root plan d ≡ false → is_backup_root plan d ≡ false
    → wait_to_move (duty_of net plan epoch d) ≡ Some w → has_backup plan d ≡ true
waits_with_backup net plan epoch d w root backup waits = by (backup_of plan d) (rw (root, backup) at waits)
  where
    by : (o : Option Hop) → (if is_some (option_map (edge_of net d) o) then Some plan.wait else None) ≡ Some w → map_or o false (λ hop. true) ≡ true
    by None h = cc
    by (Some hop) h = refl

pub put_there : (l a : Bool) → (l && not true && not a) ≡ false
put_there true a = refl
put_there false a = refl

module _ (setting : Setting) (silent : AreSilent setting) (enters : AtNext EntersSoon setting) (r d c : ℕ) (history : List Event)
    (comes : IsNextEvent setting history (event.Tick r d c))
    (p : Past) (there : past_in (chronicle setting history) d ≡ Some p) (transition_is : transition_of p (calls.Tick c) ≡ Moved) where
  abbrev steps : List Step
  steps = chronicle setting history

  abbrev plan : Plan
  plan = plan_now setting (chronicle setting history)

  abbrev told : Told
  told = happened.told setting r d c history comes p there

  abbrev sent : List Flight
  sent = happened.sent setting r d c history comes p there

  abbrev reaching : List Flight
  reaching = happened.reaching setting r d c history comes p there

  abbrev activated : Option ℕ
  activated = happened.activated setting r d c history comes p there

  abbrev acted : Bool
  acted = happened.acted setting r d c history comes p there

  live : is_up (seen_of steps) d ≡ true
  live = movers.live setting r d c history comes p there

  answers : answers_in steps d ≡ Some (answers_by p)
  answers = movers.answers setting r d c history comes p there

  told_is : told.answers ≡ Some (answers_by (added p (calls.Tick c) Moved))
  told_is = happened.told_is setting r d c history comes p there Moved transition_is

  abbrev now : List Step
  now = happened.now setting r d c history comes p there Moved transition_is

  goes : moves_at p c ≡ true
  goes = moved_when (emits_at p c) (takes_over_at p c) (moves_at p c) transition_is

  core_then : Core setting (chronicle setting history)
  core_then = (inv setting r d c history comes p there).core

  not_new : is_new (chronicle setting history) d ≡ false
  not_new = mover_is_not_new setting r d c history comes p there goes (silent.entered history (event.Tick r d c) comes)

  not_blank : is_blank (chronicle setting history) d ≡ false
  not_blank = let w = move_waited p c goes in with_duty_not_blank setting r d c history comes p there w.0 w.2.has

  started : is_beginning setting (chronicle setting history) ≡ false
  started = not_beginning setting r d c history comes p there goes (silent.entered history (event.Tick r d c) comes)

  roots : HasRoots setting.net plan
  roots = roots_then setting r d c history comes p there

  olds : (x : ℕ) → is_old now x ≡ is_old steps x
  olds = ticks.old_kept setting steps r d c reaching activated acted told sent p Moved refl live there answers transition_is told_is

  acts : (x : ℕ) → acts_in now x ≡ acts_in steps x
  acts = ticks.word_kept setting steps r d c reaching activated acted told sent p Moved refl live there answers transition_is told_is
      (λ o. map_or o false (λ a. a.acts)) refl

  moved_now : moved now d ≡ true
  moved_now = ticks.moved_now setting steps r d c reaching activated acted told sent p Moved refl live there answers transition_is told_is

  was_on_primary : on_primary steps d ≡ true
  was_on_primary =
      let from = from_primary setting r d c history comes p there goes in
      all_three (is_some (live_past steps d)) (moved steps d) (acts_in steps d)
      (ap (λ b. is_some (if b then past_in steps d else None)) live ∙ ap (λ (o : Option Past). is_some o) there)
      (ticks.moved_before setting steps r d c reaching activated acted told sent p Moved refl live there answers transition_is told_is ∙ from.unmoved)
      (acts_is setting r d c history comes p there ∙ from.acts_not)

  off_primary : on_primary now d ≡ false
  off_primary = ap (λ b. is_some (live_past now d) && not b && not (acts_in now d)) moved_now ∙ put_there (is_some (live_past now d)) (acts_in now d)

  others_moved : (x : ℕ) → nat_eq d x ≡ false → moved now x ≡ moved steps x
  others_moved = ticks.other_moved setting steps r d c reaching activated acted told sent p Moved

  others_on_primary : (x : ℕ) → nat_eq d x ≡ false → on_primary now x ≡ on_primary steps x
  others_on_primary = ticks.other_on_primary setting steps r d c reaching activated acted told sent p Moved

  -- an ordinary mover has been silent for its wait
  ordinary_long : is_old steps d ≡ true → is_root plan d ≡ false → is_backup_root plan d ≡ false → wait_low setting.net plan ≤ silent_for steps d r
  ordinary_long old root backup =
      let w = move_waited p c goes in
      let s : Stands setting steps d = old_stands setting history d old in
      let mine : duty_now p ≡ Some (duty_of setting.net plan (era steps) d) = ap duty_now (some_is (sym there ∙ s.there)) ∙ s.duty in
      ordinary_moves setting r d c history (timely_now setting r d c history comes p there) old p there root backup
      (waits_with_backup setting.net plan (era steps) d w.1 root backup (ap wait_to_move (some_is (sym mine ∙ w.2.has)) ∙ w.2.waits)) goes

  -- C2

  roots_act : IsTrue (root_acts setting now)
  roots_act = rw (acts plan.root) core_then.roles.root

  ordinary_idle : (x : ℕ) → IsTrue (ordinary_follows setting now x)
  ordinary_idle x = rw (olds x, acts x) (core_then.roles.ordinary x)

  -- C3

  caused : (x : ℕ) → IsTrue (backup_is_caused setting now x)
  caused =
      tickings.by_device setting history r d c reaching activated
      acted told sent p Moved refl refl
      live there answers transition_is
      told_is core_then not_new not_blank started (λ x. IsTrue (backup_is_caused setting now x))
      (gives (is_old now d && is_ordinary plan d && moved now d) (hit setting now d && (hit_otherwise setting now d || backup_root_acts setting now))
      (λ is.
      let front = and_parts (is_old now d) (is_ordinary plan d) (and_parts (is_old now d && is_ordinary plan d) (moved now d) is).0 in
      let old : is_old steps d ≡ true = sym (olds d) ∙ front.0 in
      let ordinary : is_ordinary plan d ≡ true = front.1 in
      let parts = ordinary_parts (is_member plan d) (is_root plan d) (is_backup_root plan d) ordinary in
      rw (acts plan.backup_root)
      (move_is_hit setting steps r core_then roots.rules roots.apart (silent.behind history (event.Tick r d c) comes)
      (silent.beside history (event.Tick r d c) comes) d (known setting r d c history comes p there)
      old ordinary was_on_primary (ordinary_long old parts.1 parts.2))))
      (λ x other. rw (olds x, others_moved x other, acts plan.backup_root) (core_then.causes.backups x))

  -- C4

  -- the backup root that moves has its path hit
  path_was_hit : is_old steps d ≡ true → d ≡ plan.backup_root → path_hit setting steps plan.backup_root ≡ true
  path_was_hit old same =
      let b = plan.backup_root in
      let old_b : is_old steps b ≡ true = subst (λ y. is_old steps y ≡ true) same old in
      let on_b : on_primary steps b ≡ true = subst (λ y. on_primary steps y ≡ true) same was_on_primary in
      let backup : is_backup_root plan d ≡ true = eq-eqb b d (sym same) in
      let root : is_root plan d ≡ false = subst (λ y. is_root plan y ≡ false) (sym same) other_b in
      let long : first_low setting.net plan ≤ silent_for steps b r =
      subst (λ y. first_low setting.net plan ≤ silent_for steps y r) same
      (backup_root_moves setting r d c history (timely_now setting r d c history comes p there) old p there root backup goes) in
      by_root old_b on_b long (root_failed setting steps) refl
    where
      other_b : is_root plan plan.backup_root ≡ false
      other_b = false_from_ne_true (is_root plan plan.backup_root)
          (λ is. both_ways (nat_eq plan.backup_root plan.root) roots.apart (eq-eqb plan.backup_root plan.root (sym (eqb-true plan.root plan.backup_root is))))

      by_root : is_old steps plan.backup_root ≡ true → on_primary steps plan.backup_root ≡ true
          → first_low setting.net plan ≤ silent_for steps plan.backup_root r
          → (f : Bool) → root_failed setting steps ≡ f → path_hit setting steps plan.backup_root ≡ true
      by_root old_b on_b long true failed =
          any_passing (is_among (failed_now steps)) (thing.Device plan.root) (path setting.net plan plan.backup_root)
          (root_on_path plan setting.net roots.rules plan.backup_root roots.backup_within roots.backup_member other_b) failed
      by_root old_b on_b long false sound =
          move_needs_hit setting steps r core_then roots.rules roots.apart roots.timed
          (silent.whole history (event.Tick r d c) comes) roots.backup_within roots.backup_member
          (root_up setting steps core_then started roots sound) old_b on_b long

  move_caused : IsTrue (move_is_caused setting now)
  move_caused = go (nat_eq d plan.backup_root) refl
    where
      go : (b : Bool) → nat_eq d plan.backup_root ≡ b → IsTrue (move_is_caused setting now)
      go true is =
          gives (is_old now plan.backup_root && moved now plan.backup_root) (path_hit setting now plan.backup_root)
          (λ both.
          let same : d ≡ plan.backup_root = eqb-true d plan.backup_root is in
          let old : is_old steps plan.backup_root ≡ true = sym (olds plan.backup_root)
          ∙ (and_parts (is_old now plan.backup_root) (moved now plan.backup_root) both).0 in
          path_was_hit (subst (λ y. is_old steps y ≡ true) (sym same) old) same)
      go false other = rw (olds plan.backup_root, others_moved plan.backup_root other) core_then.causes.move

  takeover_caused : IsTrue (takeover_is_caused setting now)
  takeover_caused = rw (acts plan.backup_root) core_then.causes.takeover

  -- C5

  -- where the backup root is on its primary it was before, and it is not the mover
  stayed : backup_root_stays setting now ≡ true → (backup_root_stays setting steps ≡ true) × (nat_eq d plan.backup_root ≡ false)
  stayed stays_ = go (nat_eq d plan.backup_root) refl
    where
      parts : (is_old now plan.backup_root ≡ true) × (on_primary now plan.backup_root ≡ true)
      parts = and_parts (is_old now plan.backup_root) (on_primary now plan.backup_root) stays_

      go : (b : Bool) → nat_eq d plan.backup_root ≡ b → (backup_root_stays setting steps ≡ true) × (nat_eq d plan.backup_root ≡ false)
      go true is = absurd (both_ways (on_primary now d) off_primary (subst (λ y. on_primary now y ≡ true) (sym (eqb-true d plan.backup_root is)) parts.1))
      go false other = (
        and_from (is_old steps plan.backup_root) (on_primary steps plan.backup_root) (sym (olds plan.backup_root) ∙ parts.0)
            (sym (others_on_primary plan.backup_root other) ∙ parts.1),
        other,
      )

  path_put : (x : ℕ) → IsTrue (path_stays setting now x)
  path_put =
      tickings.by_device setting history r d c reaching activated
      acted told sent p Moved refl refl
      live there answers transition_is
      told_is core_then not_new not_blank started (λ x. IsTrue (path_stays setting now x))
      (from_absurd (backup_root_stays setting now && has (above_backup_root setting steps) d && not (is_root plan d) && is_old now d) (moved now d)
      (λ all has_moved_.
      let three = and_parts (backup_root_stays setting now && has (above_backup_root setting steps) d && not (is_root plan d)) (is_old now d) all in
      let two = and_parts (backup_root_stays setting now && has (above_backup_root setting steps) d) (not (is_root plan d)) three.0 in
      let one = and_parts (backup_root_stays setting now) (has (above_backup_root setting steps) d) two.0 in
      let was = stayed one.0 in
      let old : is_old steps d ≡ true = sym (olds d) ∙ three.1 in
      let root : is_root plan d ≡ false = not-true (is_root plan d) two.1 in
      let backup : is_backup_root plan d ≡ false =
      false_from_ne_true (is_backup_root plan d)
      (λ is. both_ways (nat_eq d plan.backup_root) was.1 (eq-eqb d plan.backup_root (sym (eqb-true plan.backup_root d is)))) in
      above_does_not_move setting steps r core_then roots.rules roots.apart roots.timed d was.0 one.1 root old
      (backup_root_ends setting history (event.Tick r d c) comes was.0) (ordinary_long old root backup)))
      (λ x other.
      rw (others_moved x other, olds x)
      (stays_on (backup_root_stays setting now) (backup_root_stays setting steps) (has (above_backup_root setting steps) x) (not (is_root plan x))
      (is_old steps x) (not (moved steps x)) (λ is. (stayed is).0) (core_then.causes.path x)))

  -- C8, C9

  quiet_effect : told.effect ≡ Quiet
  quiet_effect =
      ap (λ o. (map_or o tells_nothing
      (λ past. tells_called (effect_of past (calls.Tick c)) (answers_by (added past (calls.Tick c) (transition_of past (calls.Tick c)))))).effect) there
      ∙ ap (λ x. effect_of_latest (added p (calls.Tick c) x) (record { call = calls.Tick c; transition = x })) transition_is

  none_sent : sent ≡ []
  none_sent =
      ap (λ e. map_or told.answers [] (λ a. flights_by setting steps r d a.epoch e)) quiet_effect
      ∙ ap (λ o. map_or o [] (λ (a : Answers). [])) told_is

  messages : IsTrue (none_sent_ahead now)
  messages =
      subst (λ (fs : List Flight). (not (not (has_commit (seen_of now)))
      || list_all (λ f. nat_le f.message.epoch (era steps))
      (flights (tick_step r d c reaching activated
      acted told fs false ∷ steps))) ≡ true) (sym none_sent)
      (rw (ticks.commit_kept setting steps r d c reaching activated acted told sent p Moved) core_then.uncommitted.messages)

  acting : (x : ℕ) → IsTrue (committer_acts setting now x)
  acting x = rw (
    ticks.commit_kept setting steps r d c reaching activated acted told sent p Moved,
    ticks.joined_kept setting steps r d c reaching activated acted told sent p Moved x,
    ticks.staged_kept setting steps r d c reaching activated acted told sent p Moved,
    acts x,
  )
      (core_then.committed.acting x)

  core_now : Core setting now
  core_now =
      tickings.core_turned setting history r d c reaching activated
      acted told sent p Moved refl refl
      live there answers transition_is
      told_is core_then not_new not_blank started
      (record {
        quiet = subst (λ n. IsTrue (nothing_emitted setting n)) (now_is setting r d c history comes p there Moved transition_is refl)
            (quiet setting (event.Tick r d c ∷ history) comes.fair comes.clean);
        still = λ x. subst (λ n. IsTrue (stays setting n x)) (now_is setting r d c history comes p there Moved transition_is refl)
            (still setting (event.Tick r d c ∷ history) comes.fair comes.clean x);
        root = roots_act;
        ordinary = ordinary_idle;
        backups = caused;
        move = move_caused;
        takeover = takeover_caused;
        path = path_put;
        stayed = λ is. (stayed is).0;
        messages = messages;
        enters = enters history (event.Tick r d c) comes;
        acting = acting;
      })

  pub moved_keeps : Core setting (chronicle setting (event.Tick r d c ∷ history))
  moved_keeps = subst (Core setting) (sym (now_is setting r d c history comes p there Moved transition_is refl)) core_now

-- a move keeps the core
pub move_keeps : (setting : Setting) → AreSilent setting → AtNext EntersSoon setting → KeepsTick setting Moved
move_keeps setting silent enters r d c history comes is = go (past_in (chronicle setting history) d) refl
  where
    go : (o : Option Past) → past_in (chronicle setting history) d ≡ o → Core setting (chronicle setting (event.Tick r d c ∷ history))
    go None at = let none : Nothing ≡ Moved = sym (ap (λ (o : Option Past). map_or o Nothing (λ past. transition_of past (calls.Tick c))) at) ∙ is in cc
    go (Some p) at =
        moved_keeps setting silent enters r d c history comes p at
        (sym (ap (λ (o : Option Past). map_or o Nothing (λ past. transition_of past (calls.Tick c))) at) ∙ is)

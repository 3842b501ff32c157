-- A tick with which a backup root takes over keeps the core: C4, since it has rested for its second wait, so the root failed; C9, since after a commit the
-- one that took over is then the staged root; and the rest as every tick does.
use Rattle.std.specs.Prelude.{◌≡◌, ℕ, ◌+◌, ◌≤◌, ◌<◌, Bool, true, false, ◌&&◌, ◌||◌, not, List, [], ◌∷◌, ◌++◌, nat_eq, nat_le, Option, Some, None, is_some, IsTrue, refl, if◌then◌else◌}
use Rattle.std.specs.List.{list_any, list_all}
use Rattle.std.proofs.Common.{arith, ◌∙◌, ap, sym, subst}
use Rattle.std.proofs.lemmas.Bool.{and_parts, and_from, eqb-true, eq-eqb, leb-true, leb-false, le-leb, false_from_ne_true, both_ways, not-true}
use Rattle.sd_num.specs.Lists.{map_or, same_number, has}
use Rattle.sd_plan.specs.declared.Plan.{Plan}
use Rattle.sd_plan.specs.declared.Duty.{Duty}
use Rattle.sd_plan.specs.declared.End.{End}
use Rattle.sd_plan.specs.declared.Role.{Role}
use Rattle.sd_plan.specs.declared.Role.TheVariants as role
use Rattle.sd_plan.specs.Plans.{is_member, is_root, is_backup_root}
use Rattle.sd_plan.specs.Duties.{duty_of}
use Rattle.sd_device.specs.declared.msg.Flight.{Flight}
use Rattle.sd_device.specs.declared.msg.Message.{Message}
use Rattle.sd_device.specs.msg.Stamps.{message_of}
use Rattle.sd_device.specs.declared.Effect.TheVariants.{Send}
use Rattle.sd_device.specs.Calls as calls
use Rattle.sd_device.specs.Calls.{Nothing, Emitted, TookOver, Moved, Past}
use Rattle.sd_device.specs.Words.{transition_of, duty_now, epoch_now, stamp_now, report_at, later_entry, starts_as_root, is_commit, is_takeover, since_entry, is_acting, moves_at, takes_over_at, emits_at, effect_of, effect_of_latest}
use Rattle.sd_device.proofs.Reached.{added}
use Rattle.sd_sched.specs.declared.Event.{Event}
use Rattle.sd_sched.specs.declared.Event.TheVariants as event
use Rattle.sd_history.specs.World.{Setting, is_up, has_commit, is_counted, joined_in_window}
use Rattle.sd_history.specs.Steps.{Answers, Told, Step, seen_of, answers_in, acts_in, tells_nothing, tells_called, flights_by, flights_to, ends_at, flight_count, flights}
use Rattle.sd_history.specs.Chronicle.{answers_by, past_in, chronicle}
use Rattle.sd_history.proofs.Given.{some_is}
use Rattle.sd_safety.specs.invariant.Bounds.{second_low}
use Rattle.sd_safety.specs.invariant.Eras.{era, plan_now, is_old, is_new, is_blank, live_past, moved, on_primary, on_backup, rests_for, is_ordinary, hit, hit_otherwise, root_failed, root_lives, device_failed_now}
use Rattle.sd_safety.specs.invariant.Clauses.{is_beginning, nothing_emitted, stays, root_acts, ordinary_follows, backup_is_caused, move_is_caused, takeover_is_caused, path_stays, above_backup_root, backup_root_stays, none_sent_ahead, committer_acts, staged_root}
use Rattle.sd_safety.specs.invariant.Invariant.{Core}
use Rattle.sd_safety.specs.invariant.Silences.{AreSilent}
use Rattle.sd_safety.specs.invariant.Kept.{KeepsTick}
use Rattle.sd_safety.specs.invariant.Coming.{IsNextEvent, AtNext}
use Rattle.sd_safety.proofs.invariant.Sides.{implied}
use Rattle.sd_safety.proofs.invariant.Causes.{takeover_needs_failure}
use Rattle.sd_safety.proofs.timers.Pasts.{Takes, takeover_from_backup}
use Rattle.sd_safety.proofs.waits.Waits.{Stands, old_stands, backup_root_takes_over}
use Rattle.sd_safety.specs.invariant.Silences.{EntersSoon}
use Rattle.sd_safety.proofs.waits.Beginning.{quiet, still, moved_late}
use Rattle.sd_safety.proofs.waits.LeastWaits.{not_late}
use Rattle.sd_safety.proofs.moves.Ticks as ticks
use Rattle.sd_safety.proofs.moves.Tickings as tickings
use Rattle.sd_safety.proofs.moves.Tickings.{stays_on}
use Rattle.sd_safety.proofs.waits.Epochs.{IsNumbered, duty_numbered}
use Rattle.sd_safety.proofs.moves.Movers.{timely_now, timely_then, inv, acts_is, epoch_is, with_duty_not_blank, new_root_acts}
use Rattle.sd_safety.proofs.moves.Movers as movers
use Rattle.sd_safety.proofs.moves.Happened.{HasRoots, root_up, roots_then, now_is}
use Rattle.sd_safety.proofs.moves.Happened as happened
use Rattle.sd_safety.proofs.moves.Moves.{put_there}
use Rattle.sd_safety.proofs.invariant.Opening.{gives}
use Rattle.sd_safety.proofs.invariant.Empty.{asks_nothing}

took_when : (e t m : Bool) → (if e then Emitted else if t then TookOver else if m then Moved else Nothing) ≡ TookOver → t ≡ true
took_when true t m is = cc
took_when false true m is = refl
took_when false false true is = cc
took_when false false false is = cc

-- a backup root has a duty
duty_of_backup : (o : Option Duty) → map_or o false (λ duty. elim duty.role [ role.BackupRoot ↦ true | _ ↦ false ]) ≡ true → (u : Duty) × (o ≡ Some u)
duty_of_backup None is = cc
duty_of_backup (Some u) is = (u, refl)

role_backup : (root backup : Bool)
    → elim (if root then role.Root else if backup then role.BackupRoot else role.Ordinary) as (λ (x : Role). Bool) [ role.BackupRoot ↦ true | _ ↦ false ] ≡ true
    → (root ≡ false) × (backup ≡ true)
role_backup true backup is = cc
role_backup false true is = (refl, refl)
role_backup false false is = cc

grows : (a b b' : Bool) → (b ≡ true → b' ≡ true) → (not a || b) ≡ true → (not a || b') ≡ true
grows true true b' on clause = on refl
grows true false b' on clause = cc
grows false b b' on clause = refl

grows_within : (c' h o a a' : Bool) → (a ≡ true → a' ≡ true) → (not c' || (h && (o || a))) ≡ true → (not c' || (h && (o || a'))) ≡ true
grows_within false h o a a' on clause = refl
grows_within true true true a a' on clause = refl
grows_within true true false true a' on clause = on refl
grows_within true true false false a' on clause = cc
grows_within true false o a a' on clause = cc

or_true : (a b : Bool) → (a || (true || b)) ≡ true
or_true true b = refl
or_true false b = refl

only_old : (failed up old new blank joined : Bool) → up ≡ true → new ≡ false → blank ≡ false → (not (true && not failed && up) || (old || new)) ≡ true
    → (not (true && failed && up) || (joined && (blank || new))) ≡ true → old ≡ true
only_old failed up true new blank joined u n b follows_ returned = refl
only_old true up false true blank joined u n b follows_ returned = cc
only_old true up false false true joined u n b follows_ returned = cc
only_old true true false false false true u n b follows_ returned = cc
only_old true true false false false false u n b follows_ returned = cc
only_old true false false false false joined u n b follows_ returned = cc
only_old false true false true blank joined u n b follows_ returned = cc
only_old false true false false blank joined u n b follows_ returned = cc
only_old false false false new blank joined u n b follows_ returned = cc

counted_old : (up member joined old new blank : Bool) → (up && (member || joined)) ≡ true → new ≡ false → blank ≡ false
    → (not (up && (member || joined)) || not (up && not (old || new || blank))) ≡ true → old ≡ true
counted_old up member joined true new blank counted n b current = refl
counted_old true true joined false false false counted n b current = cc
counted_old true false true false false false counted n b current = cc
counted_old true false false false new blank counted n b current = cc
counted_old true true joined false true blank counted n b current = cc
counted_old true true joined false false true counted n b current = cc
counted_old true false true false true blank counted n b current = cc
counted_old true false true false false true counted n b current = cc
counted_old false member joined false new blank counted n b current = cc

all_append : (test : Flight → Bool) (xs ys : List Flight) → list_all test xs ≡ true → list_all test ys ≡ true → list_all test (xs ++ ys) ≡ true
all_append test [] ys front back = back
all_append test (x ∷ xs) ys front back = let both = and_parts (test x) (list_all test xs) front in
    and_from (test x) (list_all test (xs ++ ys)) both.0 (all_append test xs ys both.1 back)

-- all flights of one sending have its message
all_to : (limit : ℕ) (setting : Setting) (steps : List Step) (r d : ℕ) (message : Message) (n : ℕ) (ends : List End) → nat_le message.epoch limit ≡ true
    → list_all (λ f. nat_le f.message.epoch limit) (flights_to setting steps r d message n ends) ≡ true
all_to limit setting steps r d message n [] small = refl
all_to limit setting steps r d message n (x ∷ ends) small =
    and_from (nat_le message.epoch limit) _ small (all_to limit setting steps r d message (n + 1) ends small)

module _ (setting : Setting) (silent : AreSilent setting) (enters : AtNext EntersSoon setting) (r d c : ℕ) (history : List Event)
    (comes : IsNextEvent setting history (event.Tick r d c))
    (p : Past) (there : past_in (chronicle setting history) d ≡ Some p) (transition_is : transition_of p (calls.Tick c) ≡ TookOver) where
  abbrev steps : List Step
  steps = chronicle setting history

  abbrev plan : Plan
  plan = plan_now setting (chronicle setting history)

  abbrev told : Told
  told = happened.told setting r d c history comes p there

  abbrev sent : List Flight
  sent = happened.sent setting r d c history comes p there

  abbrev reaching : List Flight
  reaching = happened.reaching setting r d c history comes p there

  abbrev activated : Option ℕ
  activated = happened.activated setting r d c history comes p there

  abbrev acted : Bool
  acted = happened.acted setting r d c history comes p there

  live : is_up (seen_of steps) d ≡ true
  live = movers.live setting r d c history comes p there

  answers : answers_in steps d ≡ Some (answers_by p)
  answers = movers.answers setting r d c history comes p there

  told_is : told.answers ≡ Some (answers_by (added p (calls.Tick c) TookOver))
  told_is = happened.told_is setting r d c history comes p there TookOver transition_is

  abbrev now : List Step
  now = happened.now setting r d c history comes p there TookOver transition_is

  takes : takes_over_at p c ≡ true
  takes = took_when (emits_at p c) (takes_over_at p c) (moves_at p c) transition_is

  took : Takes p
  took = takeover_from_backup p c takes

  core_then : Core setting (chronicle setting history)
  core_then = (inv setting r d c history comes p there).core

  moved_then : moved steps d ≡ true
  moved_then = ticks.moved_before setting steps r d c reaching activated acted told sent p TookOver refl live there answers transition_is told_is ∙ took.moved

  not_new : is_new (chronicle setting history) d ≡ false
  not_new = false_from_ne_true (is_new (chronicle setting history) d) (λ new. by new (nat_eq d (staged_root setting (chronicle setting history))) refl)
    where
      front : (l m a b c' : Bool) → (l && not m && not a && b && c') ≡ true → m ≡ false
      front true true a b c' h = cc
      front l false a b c' h = refl
      front false true a b c' h = cc

      by : is_new (chronicle setting history) d ≡ true → (b : Bool) → nat_eq d (staged_root setting (chronicle setting history)) ≡ b → ⊥
      by new true root = both_ways (is_acting p) took.acts_not (new_root_acts setting r d c history comes p there new root)
      by new false other =
          both_ways (moved steps d)
          (front (is_some (live_past steps d)) (moved steps d) (acts_in steps d) _ _
          (implied (is_new steps d && not (nat_eq d (staged_root setting steps))) _ (core_then.committed.linked d)
          (and_from (is_new steps d) (not (nat_eq d (staged_root setting steps))) new (ap not other)))) moved_then

  duty : (u : Duty) × (duty_now p ≡ Some u)
  duty = duty_of_backup (duty_now p) took.backup_root

  not_blank : is_blank (chronicle setting history) d ≡ false
  not_blank = with_duty_not_blank setting r d c history comes p there duty.0 duty.1

  started : is_beginning setting (chronicle setting history) ≡ false
  started =
      false_from_ne_true (is_beginning setting (chronicle setting history))
      (λ begins. not_late setting (chronicle setting history) begins
      (moved_late setting comes.fair history (timely_then setting r d c history comes p there) d p there took.moved))

  roots : HasRoots setting.net plan
  roots = roots_then setting r d c history comes p there

  olds : (x : ℕ) → is_old now x ≡ is_old steps x
  olds = ticks.old_kept setting steps r d c reaching activated acted told sent p TookOver refl live there answers transition_is told_is

  others_act : (x : ℕ) → nat_eq d x ≡ false → acts_in now x ≡ acts_in steps x
  others_act x other =
      ap (λ (o : Option Answers). map_or o false (λ a. a.acts))
      (ticks.others_kept setting steps r d c reaching activated acted told sent p TookOver x other)

  acts_now : acts_in now d ≡ true
  acts_now = ticks.acts_now setting steps r d c reaching activated acted told sent p TookOver refl live there answers transition_is told_is
      ∙ or_true (map_or (later_entry p) (starts_as_root p.making) (λ entry. is_commit entry.transition))
      (list_any (λ x. is_takeover x.transition) (since_entry p))

  acts_grow : (x : ℕ) → acts_in steps x ≡ true → acts_in now x ≡ true
  acts_grow = tickings.by_device setting history r d c reaching activated
      acted told sent p TookOver refl refl
      live there answers transition_is
      told_is core_then not_new not_blank started (λ x. acts_in steps x ≡ true
      → acts_in now x ≡ true) (λ was. acts_now) (λ x other was. others_act x other ∙ was)

  moveds : (x : ℕ) → moved now x ≡ moved steps x
  moveds = tickings.by_device setting history r d c reaching activated
      acted told sent p TookOver refl refl
      live there answers transition_is
      told_is core_then not_new not_blank started (λ x. moved now x ≡ moved steps x)
      (ticks.moved_now setting steps r d c reaching activated acted told sent p TookOver refl live there answers transition_is told_is
      ∙ sym (ticks.moved_before setting steps r d c reaching activated acted told sent p TookOver refl live there answers transition_is told_is))
      (λ x other. ticks.other_moved setting steps r d c reaching activated acted told sent p TookOver x other)

  -- an old device that takes over is the backup root
  is_the_backup : is_old steps d ≡ true → (is_root plan d ≡ false) × (is_backup_root plan d ≡ true)
  is_the_backup old =
      let s : Stands setting steps d = old_stands setting history d old in
      let mine : duty_now p ≡ Some (duty_of setting.net plan (era steps) d) = ap duty_now (some_is (sym there ∙ s.there)) ∙ s.duty in
      role_backup (is_root plan d) (is_backup_root plan d)
      (sym (ap (λ o. map_or o false (λ (u : Duty). elim u.role [ role.BackupRoot ↦ true | _ ↦ false ])) mine) ∙ took.backup_root)

  -- C4: the root failed

  old_backup : nat_eq d plan.backup_root ≡ true → is_old steps d ≡ true
  old_backup is =
      let same : d ≡ plan.backup_root = eqb-true d plan.backup_root is in
      let member : is_member plan d ≡ true = subst (λ y. is_member plan y ≡ true) (sym same) roots.backup_member in
      only_old (device_failed_now steps d) (is_up (seen_of steps) d) (is_old steps d) (is_new steps d) (is_blank steps d) (joined_in_window (seen_of steps) d)
      live not_new not_blank
      (rw member at (core_then.census.members_follow d)) (rw member at (core_then.census.returned d))

  root_was_failed : nat_eq d plan.backup_root ≡ true → root_failed setting steps ≡ true
  root_was_failed is = by_root (root_failed setting steps) refl
    where
      same : d ≡ plan.backup_root
      same = eqb-true d plan.backup_root is

      by_root : (f : Bool) → root_failed setting steps ≡ f → root_failed setting steps ≡ true
      by_root true failed = failed
      by_root false sound =
          takeover_needs_failure setting steps r core_then roots.rules roots.apart roots.timed (silent.fallback history (event.Tick r d c) comes)
          (root_up setting steps core_then started roots sound)
          (subst (λ y. is_old steps y ≡ true) same (old_backup is))
          (subst (λ y. on_backup steps y ≡ true) same
          (and_from (moved steps d) (not (acts_in steps d)) moved_then (ap not (acts_is setting r d c history comes p there ∙ took.acts_not))))
          (subst (λ y. second_low setting.net plan ≤ rests_for steps y r) same
          (backup_root_takes_over setting r d c history (timely_now setting r d c history comes p there) (old_backup is) p there takes))

  -- C2

  roots_act : IsTrue (root_acts setting now)
  roots_act = grows (root_lives setting steps) (acts_in steps plan.root) (acts_in now plan.root) (acts_grow plan.root) core_then.roles.root

  ordinary_idle : (x : ℕ) → IsTrue (ordinary_follows setting now x)
  ordinary_idle =
      tickings.by_device setting history r d c reaching activated
      acted told sent p TookOver refl refl
      live there answers transition_is
      told_is core_then not_new not_blank started
      (λ x. IsTrue (ordinary_follows setting now x))
      (asks_nothing (is_old now d && is_ordinary plan d) _
      (false_from_ne_true (is_old now d && is_ordinary plan d)
      (λ is.
      let parts = and_parts (is_old now d) (is_ordinary plan d) is in
      let backup = (is_the_backup (sym (olds d) ∙ parts.0)).1 in
      both_ways (is_backup_root plan d)
      (not-true (is_backup_root plan d) (and_parts (is_member plan d && not (is_root plan d)) (not (is_backup_root plan d)) parts.1).1) backup)))
      (λ x other. rw (olds x, others_act x other) (core_then.roles.ordinary x))

  -- C3, C4, C5

  caused : (x : ℕ) → IsTrue (backup_is_caused setting now x)
  caused x =
      rw (olds x, moveds x)
      (grows_within (is_old steps x && is_ordinary plan x && moved steps x) (hit setting steps x) (hit_otherwise setting steps x)
      (acts_in steps plan.backup_root) (acts_in now plan.backup_root) (acts_grow plan.backup_root) (core_then.causes.backups x))

  move_caused : IsTrue (move_is_caused setting now)
  move_caused = rw (olds plan.backup_root, moveds plan.backup_root) core_then.causes.move

  takeover_caused : IsTrue (takeover_is_caused setting now)
  takeover_caused = go (nat_eq d plan.backup_root) refl
    where
      go : (b : Bool) → nat_eq d plan.backup_root ≡ b → IsTrue (takeover_is_caused setting now)
      go true is = gives (acts_in now plan.backup_root) (root_failed setting steps) (λ acts. root_was_failed is)
      go false other = rw (others_act plan.backup_root other) core_then.causes.takeover

  off_primary : on_primary now d ≡ false
  off_primary = ap (λ b. is_some (live_past now d) && not b && not (acts_in now d)) (moveds d ∙ moved_then)
      ∙ put_there (is_some (live_past now d)) (acts_in now d)

  stayed : backup_root_stays setting now ≡ true → backup_root_stays setting steps ≡ true
  stayed stays_ = go (nat_eq d plan.backup_root) refl
    where
      parts : (is_old now plan.backup_root ≡ true) × (on_primary now plan.backup_root ≡ true)
      parts = and_parts (is_old now plan.backup_root) (on_primary now plan.backup_root) stays_

      go : (b : Bool) → nat_eq d plan.backup_root ≡ b → backup_root_stays setting steps ≡ true
      go true is = absurd (both_ways (on_primary now d) off_primary (subst (λ y. on_primary now y ≡ true) (sym (eqb-true d plan.backup_root is)) parts.1))
      go false other =
          and_from (is_old steps plan.backup_root) (on_primary steps plan.backup_root) (sym (olds plan.backup_root) ∙ parts.0)
          (sym (ticks.other_on_primary setting steps r d c reaching activated acted told sent p TookOver plan.backup_root other) ∙ parts.1)

  path_put : (x : ℕ) → IsTrue (path_stays setting now x)
  path_put x =
      rw (moveds x, olds x)
      (stays_on (backup_root_stays setting now) (backup_root_stays setting steps) (has (above_backup_root setting steps) x) (not (is_root plan x))
      (is_old steps x) (not (moved steps x)) stayed (core_then.causes.path x))

  -- C8, C9

  -- the plan of the device is none to come
  epoch_small : epoch_now p ≤ era steps
  epoch_small =
      let numbered : IsNumbered (era steps) duty.0 = duty_numbered setting history d p there duty.0 duty.1 in
      let is : epoch_now p ≡ duty.0.epoch = ap (λ o. map_or o 0 (λ (u : Duty). u.epoch)) duty.1 in
      subst (λ n. n ≤ era steps) (sym is)
      (below duty.0.epoch (era steps) numbered.1
      (λ same. both_ways (is_new steps d) not_new (ap (λ o. same_number o (era steps + 1)) (epoch_is setting r d c history comes p there ∙ ap (λ n. Some n) is)
      ∙ eq-eqb duty.0.epoch (era steps + 1) same)))
    where
      below : (n e : ℕ) → n ≤ e + 1 → (n ≡ e + 1 → ⊥) → n ≤ e
      below n e le never = pick (nat_le n e) refl
        where
          pick : (b : Bool) → nat_le n e ≡ b → n ≤ e
          pick true is = leb-true n e is
          pick false is = absurd (never (let lt : e < n = leb-false n e is in omega (arith, lt, le)))

  abbrev after : Past
  after = added p (calls.Tick c) TookOver

  abbrev message : Message
  message = message_of (epoch_now after) (stamp_now after) (report_at after c)

  effect_is : told.effect ≡ Send message
  effect_is =
      ap (λ o. (map_or o tells_nothing
      (λ past. tells_called (effect_of past (calls.Tick c)) (answers_by (added past (calls.Tick c) (transition_of past (calls.Tick c)))))).effect) there
      ∙ ap (λ x. effect_of_latest (added p (calls.Tick c) x) (record { call = calls.Tick c; transition = x })) transition_is

  sent_is : sent ≡ flights_to setting steps r d message (flight_count steps + 1) (ends_at setting steps (epoch_now after) d)
  sent_is =
      ap (λ e. map_or told.answers [] (λ a. flights_by setting steps r d a.epoch e)) effect_is
      ∙ ap (λ o. map_or o [] (λ (a : Answers). flights_to setting steps r d message (flight_count steps + 1) (ends_at setting steps a.epoch d)))
      told_is

  messages : IsTrue (none_sent_ahead now)
  messages =
      gives (not (has_commit (seen_of now))) (list_all (λ f. nat_le f.message.epoch (era now)) (flights now))
      (λ none.
      all_append (λ f. nat_le f.message.epoch (era steps)) sent (flights steps)
      (subst (λ fs. list_all (λ (f : Flight). nat_le f.message.epoch (era steps)) fs ≡ true) (sym sent_is)
      (all_to (era steps) setting steps r d message (flight_count steps + 1) (ends_at setting steps (epoch_now after) d)
      (le-leb (epoch_now p) (era steps) epoch_small)))
      (implied (not (has_commit (seen_of steps))) (list_all (λ f. nat_le f.message.epoch (era steps)) (flights steps)) core_then.uncommitted.messages
      (sym (ap not
      (ticks.commit_kept setting steps r d c reaching activated acted told sent p TookOver)) ∙ none)))

  -- who takes over after a commit is the staged root
  root_committed : has_commit (seen_of steps) ≡ true → is_counted setting (seen_of steps) d ≡ true → nat_eq d (staged_root setting steps) ≡ true
  root_committed commit counted =
      let old : is_old steps d ≡ true =
      counted_old (is_up (seen_of steps) d) (is_member plan d) (joined_in_window (seen_of steps) d) (is_old steps d) (is_new steps d)
      (is_blank steps d) counted not_new not_blank (core_then.census.current d) in
      let same : plan.backup_root ≡ d = eqb-true plan.backup_root d (is_the_backup old).1 in
      let failed : root_failed setting steps ≡ true = root_was_failed (eq-eqb d plan.backup_root (sym same)) in
      let both =
      implied (has_commit (seen_of steps)) (nat_eq (staged_root setting steps) (if root_failed setting steps then plan.backup_root else plan.root)
      && is_new steps (staged_root setting steps)) core_then.committed.committer commit in
      let is : nat_eq (staged_root setting steps) plan.backup_root ≡ true =
      sym (ap (λ f. nat_eq (staged_root setting steps) (if f then plan.backup_root else plan.root)) failed)
      ∙ (and_parts (nat_eq (staged_root setting steps) (if root_failed setting steps then plan.backup_root else plan.root))
      (is_new steps (staged_root setting steps)) both).0 in
      eq-eqb d (staged_root setting steps) (sym same ∙ sym (eqb-true (staged_root setting steps) plan.backup_root is))

  acting : (x : ℕ) → IsTrue (committer_acts setting now x)
  acting =
      tickings.by_device setting history r d c reaching activated
      acted told sent p TookOver refl refl
      live there answers transition_is
      told_is core_then not_new not_blank started (λ x. IsTrue (committer_acts setting now x))
      (gives (has_commit (seen_of now) && is_counted setting (seen_of now) d)
      (if nat_eq d (staged_root setting now) then acts_in now d else not (acts_in now d))
      (λ both.
      let parts = and_parts (has_commit (seen_of now)) (is_counted setting (seen_of now) d) both in
      let is : nat_eq d (staged_root setting now) ≡ true =
      ap (λ z. nat_eq d z)
      (ticks.staged_root_kept setting steps r d c reaching activated acted told sent p TookOver)
      ∙ root_committed
      (sym (ticks.commit_kept setting steps r d c reaching activated acted told sent p TookOver) ∙ parts.0)
      (sym (ticks.counted_kept setting steps r d c reaching activated acted told sent p TookOver d) ∙ parts.1) in
      ap (λ b. if b then acts_in now d else not (acts_in now d)) is ∙ acts_now))
      (λ x other. rw (
        ticks.commit_kept setting steps r d c reaching activated acted told sent p TookOver,
        ticks.joined_kept setting steps r d c reaching activated acted told sent p TookOver x,
        ticks.staged_kept setting steps r d c reaching activated acted told sent p TookOver,
        others_act x other,
      ) (core_then.committed.acting x))

  core_now : Core setting now
  core_now =
      tickings.core_turned setting history r d c reaching activated
      acted told sent p TookOver refl refl
      live there answers transition_is
      told_is core_then not_new not_blank started
      (record {
        quiet = subst (λ n. IsTrue (nothing_emitted setting n)) (now_is setting r d c history comes p there TookOver transition_is refl)
            (quiet setting (event.Tick r d c ∷ history) comes.fair comes.clean);
        still = λ x. subst (λ n. IsTrue (stays setting n x)) (now_is setting r d c history comes p there TookOver transition_is refl)
            (still setting (event.Tick r d c ∷ history) comes.fair comes.clean x);
        root = roots_act;
        ordinary = ordinary_idle;
        backups = caused;
        move = move_caused;
        takeover = takeover_caused;
        path = path_put;
        stayed = stayed;
        messages = messages;
        enters = enters history (event.Tick r d c) comes;
        acting = acting;
      })

  pub took_over_keeps : Core setting (chronicle setting (event.Tick r d c ∷ history))
  took_over_keeps = subst (Core setting) (sym (now_is setting r d c history comes p there TookOver transition_is refl)) core_now

-- a takeover keeps the core
pub takeover_keeps : (setting : Setting) → AreSilent setting → AtNext EntersSoon setting → KeepsTick setting TookOver
takeover_keeps setting silent enters r d c history comes is = go (past_in (chronicle setting history) d) refl
  where
    go : (o : Option Past) → past_in (chronicle setting history) d ≡ o → Core setting (chronicle setting (event.Tick r d c ∷ history))
    go None at = let none : Nothing ≡ TookOver = sym (ap (λ (o : Option Past). map_or o Nothing (λ past. transition_of past (calls.Tick c))) at) ∙ is in cc
    go (Some p) at =
        took_over_keeps setting silent enters r d c history comes p at
        (sym (ap (λ (o : Option Past). map_or o Nothing (λ past. transition_of past (calls.Tick c))) at) ∙ is)

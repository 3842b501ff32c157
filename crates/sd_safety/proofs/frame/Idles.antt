-- The core is kept by a report, a loss, the end, a fix, a quiet tick, an emission, and a receipt that is not accepted: each leaves the state alike. By
-- Lasting; what an emission sends is of the plan in force, since before a commit nobody is new.
use Rattle.std.specs.Prelude.{◌≡◌, ℕ, ◌+◌, ◌≤◌, Bool, true, false, ◌&&◌, ◌||◌, not, List, [], ◌∷◌, ◌++◌, nat_eq, nat_le, Option, Some, None, is_some, option_map, refl, if◌then◌else◌}
use Rattle.std.specs.List.{list_all}
use Rattle.std.proofs.Common.{arith, ◌∙◌, ap, sym, subst}
use Rattle.std.proofs.lemmas.Bool.{and_parts, and_from, eqb-true, le-leb}
use Rattle.sd_num.specs.Lists.{map_or, same_number}
use Rattle.sd_plan.specs.declared.topo.Thing.TheVariants as thing
use Rattle.sd_plan.specs.declared.End.{End}
use Rattle.sd_plan.specs.Duties.{ends_of}
use Rattle.sd_history.specs.Admitted.{Admits}
use Rattle.sd_device.specs.declared.msg.Message.{Message}
use Rattle.sd_device.specs.declared.msg.Flight.{Flight}
use Rattle.sd_device.specs.declared.Effect.{Effect}
use Rattle.sd_device.specs.declared.Effect.TheVariants.{Quiet, Send}
use Rattle.sd_device.specs.Calls as calls
use Rattle.sd_device.specs.Calls.{Call, Transition, Past}
use Rattle.sd_device.specs.Words.{after, transition_of, effect_of, accepted_over, epoch_now}
use Rattle.sd_sched.specs.declared.Event.{Event}
use Rattle.sd_sched.specs.declared.Event.TheVariants as event
use Rattle.sd_sched.specs.Events.{reference_of, device_of, started, joined, is_stage, is_commit}
use Rattle.sd_history.specs.Things.{failure_of, mended}
use Rattle.sd_history.specs.World.{Setting, makes, fails, is_up, has_commit, staged_epoch, staged, in_force}
use Rattle.sd_history.specs.Steps.{Calls, Answers, tells_nothing, tells_called, Step, seen_of, act_by, flights_of, flights_by, flights_to, flight_count, flights}
use Rattle.sd_history.specs.Chronicle.{answers_by, past_in, told_by, chronicle, next_step}
use Rattle.sd_history.specs.Refusals.{not_started}
use Rattle.sd_history.proofs.Clear.{clear}
use Rattle.sd_safety.specs.invariant.Eras.{era, is_new, did_by, does, hears, heard_at}
use Rattle.sd_safety.specs.invariant.Clauses.{none_sent_ahead, shadow_is_short}
use Rattle.sd_safety.specs.invariant.Invariant.{Core}
use Rattle.sd_safety.specs.invariant.Coming.{IsNextEvent, AtNext}
use Rattle.sd_safety.specs.invariant.Kept.{Keeps, KeepsTick, transition_of_tick}
use Rattle.sd_safety.proofs.invariant.Parents.{live_is}
use Rattle.sd_safety.proofs.invariant.Closings.{ask_closes_none, loss_closes_none, end_closes_none}
use Rattle.sd_safety.proofs.messages.Sending.{sends_own}
use Rattle.sd_safety.specs.invariant.Silences.{EntersSoon}
use Rattle.sd_safety.specs.frame.Frames.{IsElsewhere, IsPlain, IsAlike, IsAlikeAt}
use Rattle.sd_safety.proofs.frame.ElsewhereSteps.{given_alone, heard_alone}
use Rattle.sd_safety.proofs.frame.Words.{given_same}
use Rattle.sd_safety.proofs.frame.Alike.{enters_same}
use Rattle.sd_safety.proofs.frame.PlainSteps.{commit_at_kept, staged_kept}
use Rattle.sd_safety.proofs.frame.Steps.{alike_plain, alike_elsewhere}
use Rattle.sd_safety.proofs.frame.QuietCalls.{IsIdle, answers_called, alike_called, idle_turns_nothing, idle_tick, idle_emission, idle_fix}
use Rattle.sd_safety.proofs.invariant.Empty.{core_before}
use Rattle.sd_safety.proofs.frame.Lasting.{core_lasts, closes_none, shadow_same, messages_same}

-- the step that an event makes
abbrev pub step_at : Setting → List Event → Event → Step
step_at setting history e = next_step setting (chronicle setting history) e

-- Events that pass

module _ {setting : Setting} (enters : AtNext EntersSoon setting) (history : List Event) (e : Event) (comes : IsNextEvent setting history e) where
  -- a step that is plain, elsewhere of each device, and sends nothing
  pub passing : IsPlain (step_at setting history e) → ((x : ℕ) → IsElsewhere (step_at setting history e) x) → (step_at setting history e).sent ≡ []
      → Core setting (chronicle setting (e ∷ history))
  passing plain alone sent =
      let steps = chronicle setting history in
      let s = step_at setting history e in
      let core : Core setting steps = core_before setting history e comes in
      let alike : IsAlike setting steps (s ∷ steps) = alike_plain setting steps s plain in
      let each : (x : ℕ) → IsAlikeAt steps (s ∷ steps) x = λ x. alike_elsewhere setting steps s x (alone x) in
      core_lasts setting e history comes.fair comes.clean core alike each (staged_kept setting steps s plain.stays plain.unstaged)
      (commit_at_kept setting steps s plain.stays plain.unstaged plain.uncommitted) (enters history e comes)
      (λ x. enters_same setting steps (s ∷ steps) alike each (staged_kept setting steps s plain.stays plain.unstaged) x (given_alone steps s x (alone x))
      ∙ core.committed.entering x)
      (λ x. shadow_same setting steps (s ∷ steps) alike each (λ y. heard_alone steps s y (alone y)) x ∙ core.causes.shadow x)
      (messages_same setting steps (s ∷ steps) alike (ap (λ fs. fs ++ flights steps) sent) ∙ core.uncommitted.messages) plain.stays

module _ {setting : Setting} (enters : AtNext EntersSoon setting) where
  pub ask : (r d c : ℕ) → Keeps setting (event.Ask r d c)
  ask r d c history comes =
      passing enters history (event.Ask r d c) comes
      (record { stays = ask_closes_none setting history r d c; unstaged = refl; uncommitted = refl; unjoined = refl; unfailed = refl; unmended = refl })
      (λ x. record { changes = refl; unmade = refl; unfailed = refl }) refl

  pub lose : (r n : ℕ) → Keeps setting (event.Lose r n)
  lose r n history comes =
      passing enters history (event.Lose r n) comes
      (record { stays = loss_closes_none setting history r n; unstaged = refl; uncommitted = refl; unjoined = refl; unfailed = refl; unmended = refl })
      (λ x. record { changes = refl; unmade = refl; unfailed = refl }) refl

  pub ends : (r : ℕ) → Keeps setting (event.End r)
  ends r history comes =
      passing enters history (event.End r) comes
      (record { stays = end_closes_none setting history r; unstaged = refl; uncommitted = refl; unjoined = refl; unfailed = refl; unmended = refl })
      (λ x. record { changes = refl; unmade = refl; unfailed = refl }) refl

-- Calls

-- what a call sends is of the plan in force, where its device is not new
sent_all : (setting : Setting) (steps : List Step) (r d n : ℕ) (m : Message) (bound : ℕ) (ends_ : List End) → nat_le m.epoch bound ≡ true
    → list_all (λ f. nat_le f.message.epoch bound) (flights_to setting steps r d m n ends_) ≡ true
sent_all setting steps r d n m bound [] low = refl
sent_all setting steps r d n m bound (x ∷ xs) low =
    and_from (nat_le m.epoch bound) (list_all (λ f. nat_le f.message.epoch bound) (flights_to setting steps r d m (n + 1) xs)) low
    (sent_all setting steps r d (n + 1) m bound xs low)

sent_in_force : (setting : Setting) (steps : List Step) (r d epoch : ℕ) (effect : Effect) → ((m : Message) → effect ≡ Send m → m.epoch ≡ epoch)
    → nat_eq epoch (staged_epoch (seen_of steps)) ≡ false
    → list_all (λ f. nat_le f.message.epoch (era steps)) (flights_by setting steps r d epoch effect) ≡ true
sent_in_force setting steps r d epoch Quiet own unstaged = refl
sent_in_force setting steps r d epoch (Send m) own unstaged = go (nat_eq epoch (era steps)) (nat_eq epoch (staged_epoch (seen_of steps))) refl unstaged
  where
    same_or_less : (a b c : ℕ) → a ≡ b → b ≡ c → a ≤ c
    same_or_less a b c p q = omega (arith, p, q)

    go : (b c : Bool) → nat_eq epoch (era steps) ≡ b → c ≡ false
        → list_all (λ f. nat_le f.message.epoch (era steps))
        (flights_to setting steps r d m (flight_count steps + 1)
        (map_or (if b then Some (in_force setting (seen_of steps)) else if c then staged setting (seen_of steps) else None) []
        (λ plan. ends_of setting.net plan d))) ≡ true
    go true c is none =
        sent_all setting steps r d (flight_count steps + 1) m (era steps) (ends_of setting.net (in_force setting (seen_of steps)) d)
        (le-leb m.epoch (era steps) (same_or_less m.epoch epoch (era steps) (own m refl) (eqb-true epoch (era steps) is)))
    go false true is none = cc
    go false false is none = refl

module _ (setting : Setting) (e : Event) (history : List Event) (d : ℕ) (call : Call)
    (named : act_by setting (chronicle setting history) e ≡ Calls d call) where
  abbrev earlier : List Step
  earlier = chronicle setting history

  -- nobody hears by a call that accepts nothing
  pub heard_called : ((x : ℕ) → makes x e ≡ false)
      → ((past : Past) → past_in (chronicle setting history) d ≡ Some past → is_some (accepted_over (transition_of past call)) ≡ false) → (x : ℕ)
      → heard_at (chronicle setting (e ∷ history)) x ≡ heard_at (chronicle setting history) x
  heard_called unmade accepts_none x =
      ap (λ b. if b || does hears earlier (step_at setting history e) x then reference_of e else heard_at earlier x) (unmade x)
      ∙ ap (λ a. if map_or (did_by earlier a x) false hears then reference_of e else heard_at earlier x) named
      ∙ ap (λ b. if b then reference_of e else heard_at earlier x) (go (nat_eq d x) (past_in earlier x) refl refl)
    where
      go : (b : Bool) (p : Option Past) → nat_eq d x ≡ b → past_in (chronicle setting history) x ≡ p
          → map_or (if b then option_map (λ past. record { call = call; transition = transition_of past call }) p else None) false hears ≡ false
      go true None is there = refl
      go true (Some past) is there = accepts_none past (subst (λ y. past_in (chronicle setting history) y ≡ Some past) (sym (eqb-true d x is)) there)
      go false p is there = refl

  sent_is : (step_at setting history e).sent ≡ flights_of setting earlier (reference_of e) (Calls d call) (told_by earlier (Calls d call))
  sent_is = ap (λ a. flights_of setting earlier (reference_of e) a (told_by earlier a)) named

  -- nothing is sent by a call with no effect
  pub sends_none : ((past : Past) → past_in (chronicle setting history) d ≡ Some past → effect_of past call ≡ Quiet) → (step_at setting history e).sent ≡ []
  sends_none quiet_ = sent_is ∙ go (past_in earlier d) refl
    where
      go : (p : Option Past) → past_in (chronicle setting history) d ≡ p
          → map_or (map_or p tells_nothing (λ past. tells_called (effect_of past call) (answers_by (after past call)))).answers []
          (λ a. flights_by setting (chronicle setting history) (reference_of e) d a.epoch
          (map_or p tells_nothing (λ past. tells_called (effect_of past call) (answers_by (after past call)))).effect) ≡ []
      go None there = refl
      go (Some past) there = ap (flights_by setting (chronicle setting history) (reference_of e) d (epoch_now (after past call))) (quiet_ past there)

  -- and before a commit nothing is sent ahead
  pub sends_in_force : is_up (seen_of (chronicle setting history)) d ≡ true
      → ((past : Past) → past_in (chronicle setting history) d ≡ Some past → IsIdle past call) → is_new (chronicle setting history) d ≡ false
      → list_all (λ f. nat_le f.message.epoch (era (chronicle setting history))) (step_at setting history e).sent ≡ true
  sends_in_force up idle old = ap (λ fs. list_all (λ (f : Flight). nat_le f.message.epoch (era earlier)) fs) sent_is ∙ go (past_in earlier d) refl
    where
      number : (past : Past) → past_in (chronicle setting history) d ≡ Some past
          → nat_eq (epoch_now (after past call)) (staged_epoch (seen_of (chronicle setting history))) ≡ false
      number past there =
          ap (λ (a : Answers). nat_eq a.epoch (staged_epoch (seen_of earlier))) (idle past there).answers
          ∙ sym (ap (λ o. same_number (option_map (λ a. a.epoch) o) (staged_epoch (seen_of earlier)))
          (live_is setting history d ∙ ap (λ b. option_map answers_by (if b then past_in earlier d else None)) up ∙ ap (option_map answers_by) there)) ∙ old

      go : (p : Option Past) → past_in (chronicle setting history) d ≡ p
          → list_all (λ f. nat_le f.message.epoch (era (chronicle setting history)))
          (map_or (map_or p tells_nothing (λ past. tells_called (effect_of past call) (answers_by (after past call)))).answers []
          (λ a. flights_by setting (chronicle setting history) (reference_of e) d a.epoch
          (map_or p tells_nothing (λ past. tells_called (effect_of past call) (answers_by (after past call)))).effect)) ≡ true
      go None there = refl
      go (Some past) there =
          sent_in_force setting earlier (reference_of e) d (epoch_now (after past call)) (effect_of past call) (λ m same. (sends_own past call m same).1)
          (number past there)

-- the device of a call that an accepted event makes is up
pub caller_is_up : (setting : Setting) (history : List Event) (e : Event) (d : ℕ) → Admits setting (chronicle setting history) e
    → (is_some (started e) || is_some (joined e) || is_some (failure_of e) || is_some (mended e)) ≡ false → device_of e ≡ Some d
    → is_up (seen_of (chronicle setting history)) d ≡ true
caller_is_up setting history e d none plain named =
    let steps = chronicle setting history in
    let started_ : not_started (seen_of steps) e ≡ false =
    (clear setting steps e none).device_up in
    from_not (is_up (seen_of steps) d)
    (sym (ap (λ (o : Option ℕ). map_or o false (λ x. not (is_up (seen_of steps) x))) named)
    ∙ sym (ap (λ b. not b && map_or (device_of e) false (λ x. not (is_up (seen_of steps) x))) plain) ∙ started_)
  where
    from_not : (b : Bool) → not b ≡ false → b ≡ true
    from_not true h = refl
    from_not false h = cc

module _ {setting : Setting} (enters : AtNext EntersSoon setting) (history : List Event) (e : Event) (comes : IsNextEvent setting history e) (d : ℕ) (call : Call)
    (named : act_by setting (chronicle setting history) e ≡ Calls d call) (unmade : (x : ℕ) → makes x e ≡ false) (unfailed : (x : ℕ)
    → fails (thing.Device x) e ≡ false)
    (unstaged : is_stage e ≡ false) (uncommitted : is_commit e ≡ false) (unjoined : joined e ≡ None) (fails_none : failure_of e ≡ None)
    (mends_none : mended e ≡ None)
    (idle : (past : Past) → past_in (chronicle setting history) d ≡ Some past → IsIdle past call) where
  pub each_called : (x : ℕ) → IsAlikeAt (chronicle setting history) (chronicle setting (e ∷ history)) x
  each_called = alike_called setting e history d call named unmade unfailed (λ past there. idle_turns_nothing (idle past there))

  pub plain_called : IsPlain (step_at setting history e)
  plain_called =
      record {
        stays = closes_none setting e history unstaged uncommitted (λ x. (each_called x).up_is)
            (answers_called setting e history d call named unmade unfailed idle);
        unstaged = unstaged;
        uncommitted = uncommitted;
        unjoined = unjoined;
        unfailed = fails_none;
        unmended = mends_none;
      }

  pub alike_now : IsAlike setting (chronicle setting history) (chronicle setting (e ∷ history))
  alike_now = alike_plain setting (chronicle setting history) (step_at setting history e) plain_called

  -- a call that changes nothing keeps the core, where C6 and C8 stay
  pub calling : ((x : ℕ) → shadow_is_short setting (chronicle setting (e ∷ history)) x ≡ true) → none_sent_ahead (chronicle setting (e ∷ history)) ≡ true
      → Core setting (chronicle setting (e ∷ history))
  calling shadow messages =
      let steps = chronicle setting history in
      let s = step_at setting history e in
      let same_plan = staged_kept setting steps s plain_called.stays unstaged in
      core_lasts setting e history comes.fair comes.clean (core_before setting history e comes) alike_now each_called same_plan
      (commit_at_kept setting steps s plain_called.stays unstaged uncommitted) (enters history e comes)
      (λ x. enters_same setting steps (s ∷ steps) alike_now each_called same_plan x
      (given_same steps (s ∷ steps) x (answers_called setting e history d call named unmade unfailed idle x))
      ∙ (core_before setting history e comes).committed.entering x)
      shadow messages plain_called.stays

  -- they stay where it accepts nothing
  pub shadow_called : ((past : Past) → past_in (chronicle setting history) d ≡ Some past → is_some (accepted_over (transition_of past call)) ≡ false) → (x : ℕ)
      → shadow_is_short setting (chronicle setting (e ∷ history)) x ≡ true
  shadow_called accepts_none x =
      shadow_same setting (chronicle setting history) (chronicle setting (e ∷ history)) alike_now each_called
      (heard_called setting e history d call named unmade accepts_none) x
      ∙ (core_before setting history e comes).causes.shadow x

  -- and what it sends is of the plan in force, where its device is up
  pub messages_called : is_up (seen_of (chronicle setting history)) d ≡ true → none_sent_ahead (chronicle setting (e ∷ history)) ≡ true
  messages_called up =
      ap (λ c. not (not c) || list_all (λ (f : Flight). nat_le f.message.epoch (era two)) (flights two)) alike_now.commit_is
      ∙ ap (λ n. not (not (has_commit (seen_of one))) || list_all (λ (f : Flight). nat_le f.message.epoch n) (flights two)) alike_now.era_is
      ∙ go (has_commit (seen_of one)) core.uncommitted.messages (core.uncommitted.devices d)
    where
      one : List Step
      one = chronicle setting history

      two : List Step
      two = chronicle setting (e ∷ history)

      core : Core setting (chronicle setting history)
      core = core_before setting history e comes

      both : (xs ys : List Flight) → list_all (λ (f : Flight). nat_le f.message.epoch (era one)) xs ≡ true
          → list_all (λ (f : Flight). nat_le f.message.epoch (era one)) ys ≡ true
          → list_all (λ (f : Flight). nat_le f.message.epoch (era one)) (xs ++ ys) ≡ true
      both [] ys a b = b
      both (x ∷ xs) ys a b =
          let parts = and_parts (nat_le x.message.epoch (era one)) (list_all (λ (f : Flight). nat_le f.message.epoch (era one)) xs) a in
          and_from (nat_le x.message.epoch (era one)) (list_all (λ (f : Flight). nat_le f.message.epoch (era one)) (xs ++ ys)) parts.0 (both xs ys parts.1 b)

      from_not : (b : Bool) → not b ≡ true → b ≡ false
      from_not true h = cc
      from_not false h = refl

      go : (c : Bool) → (not (not c) || list_all (λ (f : Flight). nat_le f.message.epoch (era one)) (flights one)) ≡ true
          → (not (not c) || not (is_new one d)) ≡ true
          → (not (not c) || list_all (λ (f : Flight). nat_le f.message.epoch (era one)) ((step_at setting history e).sent ++ flights one)) ≡ true
      go true before none = refl
      go false before none =
          both (step_at setting history e).sent (flights one) (sends_in_force setting e history d call named up idle (from_not (is_new one d) none)) before

module _ {setting : Setting} (enters : AtNext EntersSoon setting) where
  -- what the tick did
  done : (history : List Event) (d c : ℕ) (transition : Transition) → transition_of_tick (chronicle setting history) d c ≡ transition → (past : Past)
      → past_in (chronicle setting history) d ≡ Some past → transition_of past (calls.Tick c) ≡ transition
  done history d c transition is past there = sym (ap (λ (o : Option Past). map_or o calls.Nothing (λ p. transition_of p (calls.Tick c))) there) ∙ is

  pub tick_quiet : KeepsTick setting calls.Nothing
  tick_quiet r d c history comes is =
      calling enters history (event.Tick r d c) comes d (calls.Tick c) refl (λ x. refl) (λ x. refl) refl refl refl refl refl
      (λ past there. idle_tick past c (done history d c calls.Nothing is past there))
      (shadow_called enters history (event.Tick r d c) comes d (calls.Tick c) refl (λ x. refl) (λ x. refl) refl refl refl refl refl
      (λ past there. idle_tick past c (done history d c calls.Nothing is past there))
      (λ past there. ap (λ transition. is_some (accepted_over transition)) (done history d c calls.Nothing is past there)))
      (messages_called enters history (event.Tick r d c) comes d (calls.Tick c) refl (λ x. refl) (λ x. refl) refl refl refl refl refl
      (λ past there. idle_tick past c (done history d c calls.Nothing is past there))
      (caller_is_up setting history (event.Tick r d c) d comes.clean.is.1 refl refl))

  pub tick_emits : KeepsTick setting calls.Emitted
  tick_emits r d c history comes is =
      calling enters history (event.Tick r d c) comes d (calls.Tick c) refl (λ x. refl) (λ x. refl) refl refl refl refl refl
      (λ past there. idle_emission past c (done history d c calls.Emitted is past there))
      (shadow_called enters history (event.Tick r d c) comes d (calls.Tick c) refl (λ x. refl) (λ x. refl) refl refl refl refl refl
      (λ past there. idle_emission past c (done history d c calls.Emitted is past there))
      (λ past there. ap (λ transition. is_some (accepted_over transition)) (done history d c calls.Emitted is past there)))
      (messages_called enters history (event.Tick r d c) comes d (calls.Tick c) refl (λ x. refl) (λ x. refl) refl refl refl refl refl
      (λ past there. idle_emission past c (done history d c calls.Emitted is past there))
      (caller_is_up setting history (event.Tick r d c) d comes.clean.is.1 refl refl))

  pub fix : (r d c clock eps : ℕ) → Keeps setting (event.Fix r d c clock eps)
  fix r d c clock eps history comes =
      calling enters history (event.Fix r d c clock eps) comes d (calls.Fix c clock eps) refl (λ x. refl) (λ x. refl) refl refl refl refl refl
      (λ past there. idle_fix past c clock eps)
      (shadow_called enters history (event.Fix r d c clock eps) comes d (calls.Fix c clock eps) refl (λ x. refl) (λ x. refl) refl refl refl refl refl
      (λ past there. idle_fix past c clock eps) (λ past there. refl))
      (messages_called enters history (event.Fix r d c clock eps) comes d (calls.Fix c clock eps) refl (λ x. refl) (λ x. refl) refl refl refl refl refl
      (λ past there. idle_fix past c clock eps)
      (caller_is_up setting history (event.Fix r d c clock eps) d comes.clean.is.1 refl refl))

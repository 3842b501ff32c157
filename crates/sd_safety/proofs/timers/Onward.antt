-- Deadlines over pasts: what the latest tick says of the waits goes on with each call. By the nine cases of a call, with timer high at a tick that does
-- nothing.
use Rattle.std.specs.Prelude.{◌≡◌, ℕ, ◌+◌, ◌-◌, ◌<◌, ◌≤◌, Bool, true, false, ◌&&◌, ◌||◌, not, max, nat_le, Option, Some, None, is_some, option_and_then, refl, ◌⊎◌, if◌then◌else◌}
use Rattle.std.specs.List.{list_any}
use Rattle.std.proofs.Common.{arith, sym, ◌∙◌, ap, subst, inl, inr}
use Rattle.std.proofs.lemmas.Bool.{and_parts, leb-false, both_ways, cases_lt}
use Rattle.sd_num.specs.Lists.{map_or}
use Rattle.sd_num.specs.Numbers.{up, keeps_rate}
use Rattle.sd_num.specs.declared.Rates.{Rates}
use Rattle.sd_plan.specs.declared.Duty.{Duty}
use Rattle.sd_plan.specs.declared.Edge.{Edge}
use Rattle.sd_device.specs.declared.msg.Message.{Message}
use Rattle.sd_device.specs.Calls.{Making, Call, Tick, Receive, Fix, Give, Commit, Seal, Transition, Entered, Committed, Recommitted, Accepted, Moved, TookOver, Emitted, Nothing, Past}
use Rattle.sd_device.specs.Words.{after, since_entry, later_entry, duty_now, is_sealed, is_seal, has_moved, is_acting, is_commit, starts_as_root, may_move, wait_to_move, heard, moved_at, sent_at, emits_at, takes_over_at, moves_at, is_backup_root_now}
use Rattle.sd_device.proofs.Reached.{added, has_taken_over}
use Rattle.sd_history.specs.Chronicle.{new_past}
use Rattle.sd_safety.specs.timers.Times.{is_tick, did_by}
use Rattle.sd_safety.specs.timers.Dues.{Times, Due, times_with, times_made}
use Rattle.sd_safety.proofs.timers.Spans.{timer_short}
use Rattle.sd_safety.proofs.timers.Transitions.{by_case}
use Rattle.sd_safety.proofs.timers.Pasts.{others_may_move}

-- a tick at this counter and reference keeps the rates with what the device heard, moved and sent
pub record KeepsAll (rates : Rates) (past : Past) (r : ℕ) (t : Times) (c : ℕ) : Type 0 where
  pub heard : keeps_rate rates (c - heard past) (r - t.heard) ≡ true
  pub moved : has_moved past ≡ true → keeps_rate rates (c - moved_at past) (r - t.moved) ≡ true
  pub sent : keeps_rate rates (c - sent_at past) (r - t.sent) ≡ true

last_false : (a b c d : Bool) → a ≡ true → b ≡ false → c ≡ true → (a && not b && c && d) ≡ false → d ≡ false
last_false true false true d ea eb ec h = h
last_false true false false d ea eb ec h = cc
last_false true true c d ea eb ec h = cc
last_false false b c d ea eb ec h = cc

last_false_of_takeover : (a b c d : Bool) → a ≡ true → b ≡ true → c ≡ false → (a && b && not c && d) ≡ false → d ≡ false
last_false_of_takeover true true false d ea eb ec h = h
last_false_of_takeover true true true d ea eb ec h = cc
last_false_of_takeover true false c d ea eb ec h = cc
last_false_of_takeover false b c d ea eb ec h = cc

last_false_of_two : (a d : Bool) → a ≡ true → (a && d) ≡ false → d ≡ false
last_false_of_two true d ea h = h
last_false_of_two false d ea h = cc

-- a wait that is not over: less than Up of it has passed
module _ (rates : Rates) (past : Past) (r : ℕ) (t : Times) (c : ℕ) (keeps : KeepsAll rates past r t c) where
  not_silent : (duty : Duty) (wait q : ℕ) → duty_now past ≡ Some duty → wait_to_move duty ≡ Some wait → has_moved past ≡ false → is_acting past ≡ false
      → is_sealed past ≡ true → moves_at past c ≡ false
      → r ≤ max (t.heard + up rates wait) q
  not_silent duty wait q has waits still acts sealed stays =
      let test : map_or (option_and_then wait_to_move (duty_now past)) false (λ w. nat_le w (c - heard past)) ≡ false =
      last_false (may_move past) (has_moved past) (is_sealed past)
      (map_or (option_and_then wait_to_move (duty_now past)) false (λ w. nat_le w (c - heard past)))
      (others_may_move past duty has acts) still sealed stays in
      let wait_is : option_and_then wait_to_move (duty_now past) ≡ Some wait = ap (option_and_then wait_to_move) has ∙ waits in
      let short : c - heard past < wait =
      leb-false wait (c - heard past) (subst (λ o. map_or o false (λ w. nat_le w (c - heard past)) ≡ false) wait_is test) in
      within r t.heard (up rates wait) q (timer_short rates wait (c - heard past) (r - t.heard) keeps.heard short)
    where
      within : (r h u q : ℕ) → r - h < u → r ≤ max (h + u) q
      within r h u q lt = omega (arith, lt)

  not_rested : (duty : Duty) → duty_now past ≡ Some duty → is_backup_root_now past ≡ true → has_moved past ≡ true → is_acting past ≡ false
      → takes_over_at past c ≡ false
      → r ≤ max t.heard t.moved + up rates duty.wait_second
  not_rested duty has backup moved acts stays =
      let test : map_or (duty_now past) false (λ u. nat_le u.wait_second (c - max (heard past) (moved_at past))) ≡ false =
      last_false_of_takeover (is_backup_root_now past) (has_moved past) (is_acting past)
      (map_or (duty_now past) false (λ u. nat_le u.wait_second (c - max (heard past) (moved_at past)))) backup moved acts stays in
      let short : c - max (heard past) (moved_at past) < duty.wait_second =
      leb-false duty.wait_second (c - max (heard past) (moved_at past))
      (subst (λ o. map_or o false (λ (u : Duty). nat_le u.wait_second (c - max (heard past) (moved_at past))) ≡ false) has test) in
      by_order (cases_lt (heard past) (moved_at past)) short
    where
      first : (r h m u : ℕ) → r - h < u → r ≤ max h m + u
      first r h m u lt = omega (arith, lt)

      second : (r h m u : ℕ) → r - m < u → r ≤ max h m + u
      second r h m u lt = omega (arith, lt)

      by_order : (heard past < moved_at past) ⊎ (moved_at past ≤ heard past) → c - max (heard past) (moved_at past) < duty.wait_second
          → r ≤ max t.heard t.moved + up rates duty.wait_second
      by_order (inl lt) short =
          second r t.heard t.moved (up rates duty.wait_second)
          (timer_short rates duty.wait_second (c - moved_at past) (r - t.moved) (keeps.moved moved) (omega (arith, lt, short)))
      by_order (inr le) short =
          first r t.heard t.moved (up rates duty.wait_second)
          (timer_short rates duty.wait_second (c - heard past) (r - t.heard) keeps.heard (omega (arith, le, short)))

  not_due : (duty : Duty) (period : ℕ) → duty_now past ≡ Some duty → duty.period ≡ period → is_acting past ≡ true → emits_at past c ≡ false
      → r ≤ t.sent + up rates period
  not_due duty period has is acts stays =
      let test : map_or (duty_now past) false (λ u. nat_le u.period (c - sent_at past)) ≡ false =
      last_false_of_two (is_acting past) (map_or (duty_now past) false (λ u. nat_le u.period (c - sent_at past))) acts stays in
      let short : c - sent_at past < duty.period =
      leb-false duty.period (c - sent_at past) (subst (λ o. map_or o false (λ (u : Duty). nat_le u.period (c - sent_at past)) ≡ false) has test) in
      within r t.sent (up rates period) (timer_short rates period (c - sent_at past) (r - t.sent) keeps.sent (subst (λ p. c - sent_at past < p) is short))
    where
      within : (r h u : ℕ) → r - h < u → r ≤ h + u
      within r h u lt = omega (arith, lt)

kept_seal : (o : Option ℕ) → (if is_some o then o else None) ≡ o
kept_seal None = refl
kept_seal (Some q) = refl

-- a making
pub due_made : (rates : Rates) (period : ℕ) (making : Making) (r : ℕ) → Due rates period (new_past making) (times_made r)
due_made rates period making r =
    record {
      primary = λ duty wait q has waits still acts seal. omega arith;
      backup = λ duty has backup moved acts. cc;
      acting = λ acts. omega arith;
      sealed = refl;
    }

module _ (rates : Rates) (period : ℕ) (past : Past) (r : ℕ) (t : Times) (due : Due rates period past t) (before : t.tick ≤ r)
    (has_duty : is_acting past ≡ true → (duty : Duty) × (duty_now past ≡ Some duty)) (periods : (duty : Duty) → duty_now past ≡ Some duty
    → duty.period ≡ period) where
  -- the new times are due after the call, where its counter keeps the rates
  abbrev After : Call → Transition → Type 0
  After call transition = ((c : ℕ) → call ≡ Tick c → KeepsAll rates past r t c)
      → Due rates period (added past call transition) (times_with r (record { call = call; transition = transition }) t)

  acting_within : (c : ℕ) → KeepsAll rates past r t c → emits_at past c ≡ false → is_acting past ≡ true → r ≤ t.sent + up rates period
  acting_within c keeps e acts = let duty : (duty : Duty) × (duty_now past ≡ Some duty) = has_duty acts in
      not_due rates past r t c keeps duty.0 period duty.1 (periods duty.0 duty.1) acts e

  sealed_before : (q : ℕ) → (if is_some t.seal then t.seal else None) ≡ Some q → is_sealed past ≡ true
  sealed_before q same = sym due.sealed ∙ ap is_some (sym (kept_seal t.seal) ∙ same)

  still_sealed : is_some (if is_some t.seal then t.seal else None) ≡ is_sealed past
  still_sealed = ap is_some (kept_seal t.seal) ∙ due.sealed

  emitted : (c : ℕ) → emits_at past c ≡ true → After (Tick c) Emitted
  emitted c e keeps =
      let acts' : is_acting past ≡ true = (and_parts (is_acting past) (map_or (duty_now past) false (λ duty. nat_le duty.period (c - sent_at past))) e).0 in
      record {
        primary = λ duty wait q has waits still acts seal. absurd (both_ways (is_acting past) acts acts');
        backup = λ duty has backup moved acts. absurd (both_ways (is_acting past) acts acts');
        acting = λ acts. omega arith;
        sealed = still_sealed;
      }

  or_true : (a b : Bool) → (a || (true || b)) ≡ true
  or_true true b = refl
  or_true false b = refl

  took : (c : ℕ) → After (Tick c) TookOver
  took c keeps =
      let acts' : is_acting (added past (Tick c) TookOver) ≡ true =
      or_true (map_or (later_entry past) (starts_as_root past.making) (λ entry. is_commit entry.transition)) (has_taken_over past) in
      record {
        primary = λ duty wait q has waits still acts seal. absurd (both_ways (is_acting (added past (Tick c) TookOver)) acts acts');
        backup = λ duty has backup moved acts. absurd (both_ways (is_acting (added past (Tick c) TookOver)) acts acts');
        acting = λ acts. omega arith;
        sealed = still_sealed;
      }

  moved_ : (c : ℕ) → emits_at past c ≡ false → After (Tick c) Moved
  moved_ c e keeps =
      record {
        primary = λ duty wait q has waits still acts seal. cc;
        backup = λ duty has backup moved acts. omega arith;
        acting = λ acts. acting_within c (keeps c refl) e acts;
        sealed = still_sealed;
      }

  still_ : (c : ℕ) → emits_at past c ≡ false → takes_over_at past c ≡ false → moves_at past c ≡ false → After (Tick c) Nothing
  still_ c e t' m keeps =
      record {
        primary = λ duty wait q has waits still acts seal.
            subst (λ o. r ≤ o) refl (not_silent rates past r t c (keeps c refl) duty wait q has waits still acts (sealed_before q seal) m);
        backup = λ duty has backup moved acts. not_rested rates past r t c (keeps c refl) duty has backup moved acts t';
        acting = λ acts. acting_within c (keeps c refl) e acts;
        sealed = still_sealed;
      }

  entered : (link : ℕ) (message : Message) (c : ℕ) (duty : Duty) (edge : Edge) → After (Receive link message c) (Entered duty edge)
  entered link message c duty edge keeps =
      record {
        primary = λ duty wait q has waits still acts seal. cc;
        backup = λ duty has backup moved acts. cc;
        acting = λ acts. cc;
        sealed = refl;
      }

  accepted : (link : ℕ) (message : Message) (c : ℕ) (edge : Edge) → After (Receive link message c) (Accepted edge)
  accepted link message c edge keeps =
      record {
        primary = λ duty wait q has waits still acts seal. omega (arith, before);
        backup = λ duty has backup moved acts. omega (arith, before);
        acting = due.acting;
        sealed = still_sealed;
      }

  committed : (c : ℕ) (duty : Duty) → After (Commit c) (Committed duty)
  committed c duty keeps =
      record {
        primary = λ duty wait q has waits still acts seal. cc;
        backup = λ duty has backup moved acts. cc;
        acting = λ acts. omega (arith, before);
        sealed = refl;
      }

  recommitted : (c : ℕ) (duty : Duty) → is_acting past ≡ true → After (Commit c) (Recommitted duty)
  recommitted c duty acts' keeps =
      record {
        primary = λ duty wait q has waits still acts seal. cc;
        backup = λ duty has backup moved acts. cc;
        acting = λ acts. due.acting acts';
        sealed = refl;
      }

  -- a call that is no tick and did nothing
  quiet : (call : Call) → is_tick call ≡ false → is_seal call ≡ false
      → Due rates period (added past call Nothing)
      (record { tick = t.tick; heard = t.heard; moved = t.moved; sent = t.sent; seal = if is_some t.seal then t.seal else None })
  quiet call none no_seal =
      record {
        primary = λ duty wait q has waits still acts seal. due.primary duty wait q has waits still acts (sym (kept_seal t.seal) ∙ seal);
        backup = due.backup;
        acting = due.acting;
        sealed = still_sealed ∙ ap (λ b. not (is_some (later_entry past)) || (b || list_any (λ x. is_seal x.call) (since_entry past))) (sym no_seal);
      }

  seal_ : After Seal Nothing
  seal_ keeps =
      record {
        primary = λ duty wait q has waits still acts seal. sealing t.seal refl duty wait q has waits still acts seal;
        backup = due.backup;
        acting = due.acting;
        sealed = is_some_of t.seal ∙ sym (or_true (not (is_some (later_entry past))) (list_any (λ x. is_seal x.call) (since_entry past)));
      }
    where
      is_some_of : (o : Option ℕ) → is_some (if is_some o then o else Some r) ≡ true
      is_some_of None = refl
      is_some_of (Some q) = refl

      sealing : (o : Option ℕ) → t.seal ≡ o → (duty : Duty) (wait q : ℕ) → duty_now past ≡ Some duty → wait_to_move duty ≡ Some wait → has_moved past ≡ false
          → is_acting past ≡ false
          → (if is_some o then o else Some r) ≡ Some q → t.tick ≤ max (t.heard + up rates wait) q
      sealing None is duty wait q has waits still acts seal = let at : r ≡ q = ap (λ o. map_or o r (λ z. z)) seal in omega (arith, at, before)
      sealing (Some q') is duty wait q has waits still acts seal = due.primary duty wait q has waits still acts (is ∙ seal)

  nothing : (call : Call) → is_tick call ≡ false → After call Nothing
  nothing (Tick c) none keeps = cc
  nothing (Receive link message c) none keeps = quiet (Receive link message c) refl refl
  nothing (Fix c clock eps) none keeps = quiet (Fix c clock eps) refl refl
  nothing (Give duty) none keeps = quiet (Give duty) refl refl
  nothing (Commit c) none keeps = quiet (Commit c) refl refl
  nothing Seal none keeps = seal_ keeps

  -- each call leaves the times due
  pub due_after : (call : Call) → ((c : ℕ) → call ≡ Tick c → KeepsAll rates past r t c) → Due rates period (after past call) (times_with r (did_by past call) t)
  due_after call keeps =
      by_case past After
      (record {
        emitted = emitted;
        took = λ c e t'. took c;
        moved = λ c e t' m. moved_ c e;
        still = still_;
        entered = entered;
        accepted = accepted;
        committed = λ c duty a. committed c duty;
        recommitted = recommitted;
        nothing = nothing;
      })
      call keeps

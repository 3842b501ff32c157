-- A fleet that is worked out is a deployed fleet, where tests that compute say so.
use Rattle.std.specs.Prelude.{◌≡◌, ℕ, ◌+◌, ◌-◌, ◌≤◌, ◌%◌, Bool, true, false, ◌&&◌, ◌||◌, not, List, [], ◌∷◌, nat_eq, nat_le, Option, Some, None, IfSome, option_map, refl, if◌then◌else◌}
use Rattle.std.specs.List.{list_all}
use Rattle.std.proofs.Common.{arith, ap, inr}
use Rattle.std.proofs.lemmas.Bool.{and_parts, eqb-true, leb-true, not-true}
use Rattle.sd_num.specs.Lists.{map_or}
use Rattle.sd_sched.specs.declared.Event.{Event}
use Rattle.sd_sched.specs.declared.Event.TheVariants as event
use Rattle.sd_device.specs.declared.msg.Flight.{Flight}
use Rattle.sd_device.specs.declared.registers.Registers.{Registers}
use Rattle.sd_device.specs.Calls as calls
use Rattle.sd_device.specs.Calls.{Call}
use Rattle.sd_device.specs.Words.{counter_of}
use Rattle.sd_device.specs.Rules.{made, floor_in, report_in}
use Rattle.sd_device.specs.Rebases.{call_lowered, lowering}
use Rattle.sd_device.proofs.Stands.{IsDue}
use Rattle.sd_exports.specs.Exports as exports
use Rattle.sd_exports.specs.Exports.{Themselves}
use Rattle.sd_exports.proofs.Registers.{making_is_made, call_is_called, rebase_is_rebased, report_is_told, is_plain, AreAnswered, are_answered}
use Rattle.sd_history.specs.World.{Setting}
use Rattle.sd_history.specs.Steps.{Act, Makes, Calls, Asks, Passes, Step, tells_nothing, tells_called, act_by, flight_numbered}
use Rattle.sd_history.specs.Lives.{tells_report}
use Rattle.sd_history.specs.Refusals.{causes, was_used, was_swept}
use Rattle.sd_history.specs.Admitted.{is_count}
use Rattle.sd_beside.specs.deployment.Deployment.{Kept, Moment, steps_of, with_tended, struct_in, IsRebased, AreTended, IsAnswered, IsCalled, IsAsked, Exports, IsDelivered, IsCallOf, IsDeployment}
use Rattle.sd_beside.specs.deployment.Worked.{Structs, rebase, is_rebased_at, tended_before, answers_in, after_call, tells_by, left_by, run_of}
use Rattle.sd_beside.proofs.deployment.Orderly.{orderly_of}

-- Rebases

-- the counter has not fallen
abbrev may_rebase : ℕ → Kept Registers → Bool
may_rebase counter kept =
    nat_le kept.lowered counter && nat_le kept.since counter && nat_le (floor_in kept.struct) (counter - kept.lowered)

abbrev may_tend : Structs → Event → Bool
may_tend structs (event.Tick reference d counter) = if nat_eq (reference % 240000000) 0 then map_or (structs d) true (may_rebase counter) else true
may_tend structs _ = true

rebases : (kept : Kept Registers) (counter : ℕ) → may_rebase counter kept ≡ true → IsRebased Themselves kept (rebase kept counter)
rebases kept counter may =
    let first = and_parts (nat_le kept.lowered counter && nat_le kept.since counter) (nat_le (floor_in kept.struct) (counter - kept.lowered)) may in
    let both = and_parts (nat_le kept.lowered counter) (nat_le kept.since counter) first.0 in
    record {
      counter = counter - kept.lowered;
      by = lowering kept.struct (counter - kept.lowered);
      rebased = rebase_is_rebased kept.struct (counter - kept.lowered) (leb-true (floor_in kept.struct) (counter - kept.lowered) first.1);
      lowered = refl;
      since = back counter kept.lowered (leb-true kept.lowered counter both.0);
      later = leb-true kept.since counter both.1;
    }
  where
    back : (counter lowered : ℕ) → lowered ≤ counter → counter ≡ counter - lowered + lowered
    back counter lowered small = omega (arith, small)

are_tended : (structs : Structs) (e : Event) → may_tend structs e ≡ true → AreTended Themselves structs (tended_before structs e)
are_tended structs (event.Tick reference d counter) may = by (nat_eq (reference % 240000000) 0) may
  where
    one : (o : Option (Kept Registers)) → structs d ≡ o → map_or o true (may_rebase counter) ≡ true
        → AreTended Themselves structs (map_or o [] (λ kept. record { device = d; left = rebase kept counter } ∷ []))
    one None there may' = tt
    one (Some kept) there may' = (tt, (kept, there, inr (rebases kept counter may')))

    by : (b : Bool) → (if b then map_or (structs d) true (may_rebase counter) else true) ≡ true
        → AreTended Themselves structs (if b then is_rebased_at d counter structs else [])
    by true may' = one (structs d) refl may'
    by false may' = tt
are_tended structs _ may = tt

-- Calls

-- no counter falls
abbrev is_due : ℕ → Option ℕ → Bool
is_due floor counter = map_or counter true (nat_le floor)

-- the call may be made of these registers, and after it they follow a plan or are idle
unfoldable pub may_call : Call → Kept Registers → Bool
may_call call kept =
    let lower = call_lowered kept.lowered call in
    is_due kept.since (counter_of call) && is_due kept.struct.last (counter_of lower)
    && is_plain (after_call kept call).0

abbrev may_act : Structs → Act → Bool
may_act structs (Makes d making) = is_plain (made making)
may_act structs (Calls d call) = map_or (structs d) false (may_call call)
may_act structs (Asks d counter) = map_or (structs d) false (λ kept. nat_le kept.since counter)
may_act structs Passes = true

not_below : (floor : ℕ) (counter : Option ℕ) → is_due floor counter ≡ true → IfSome counter (λ c. floor ≤ c)
not_below floor None may = tt
not_below floor (Some c) may = leb-true floor c may

due : (floor : ℕ) (counter : Option ℕ) → is_due floor counter ≡ true → IsDue floor counter
due floor None may = tt
due floor (Some c) may = leb-true floor c may

answered : (r : Registers) → is_plain r ≡ true → IsAnswered Themselves r (answers_in r)
answered r plain =
    let all : AreAnswered r = are_answered r plain in
    record {
      parent = all.parent;
      acts = all.acts;
      epoch = all.epoch;
      given = λ x same. ap (λ (y : Registers). y.given) same;
      sealed = λ x same. ap (λ (y : Registers). y.sealed) same;
    }

does_it : (kept : Kept Registers) (call : Call) → IsDue kept.struct.last (counter_of (call_lowered kept.lowered call))
    → exports.IsCalled Themselves kept.struct (call_lowered kept.lowered call) (after_call kept call).0 (after_call kept call).1
unfolding after_call
does_it kept call is_due = call_is_called kept.struct (call_lowered kept.lowered call) is_due

record MayCall (call : Call) (kept : Kept Registers) : Type 0 where
  is_due : IfSome (counter_of call) (λ counter. kept.since ≤ counter)
  does : exports.IsCalled Themselves kept.struct (call_lowered kept.lowered call) (after_call kept call).0 (after_call kept call).1
  plain : is_plain (after_call kept call).0 ≡ true

may_call_so : (call : Call) (kept : Kept Registers) → may_call call kept ≡ true → MayCall call kept
unfolding may_call
may_call_so call kept may =
    let last = counter_of (call_lowered kept.lowered call) in
    let first = and_parts (is_due kept.since (counter_of call) && is_due kept.struct.last last)
    (is_plain (after_call kept call).0) may in
    let second = and_parts (is_due kept.since (counter_of call)) (is_due kept.struct.last last) first.0 in
    record {
      is_due = not_below kept.since (counter_of call) second.0;
      does = does_it kept call (due kept.struct.last last second.1);
      plain = first.1;
    }

-- what passes a test is there
found : {A : Type 0} (test : A → Bool) (o : Option A) → map_or o false test ≡ true → (x : A) × (o ≡ Some x) × (test x ≡ true)
found test None may = cc
found test (Some x) may = (x, refl, may)

called_it : (call : Call) (o : Option (Kept Registers)) → map_or o false (may_call call) ≡ true
    → IsCalled Themselves o call
    (map_or o tells_nothing (λ kept. tells_called (after_call kept call).1 (answers_in (after_call kept call).0)))
    (option_map (λ kept. record { struct = (after_call kept call).0; lowered = kept.lowered; since = kept.since }) o)
called_it call o may =
    let there = found (may_call call) o may in
    let can : MayCall call there.0 = may_call_so call there.0 there.2 in
    record {
      kept = there.0;
      struct = (after_call there.0 call).0;
      effect = (after_call there.0 call).1;
      answers = answers_in (after_call there.0 call).0;
      there = there.1;
      due = can.is_due;
      called = can.does;
      answered = answered (after_call there.0 call).0 can.plain;
      tells = ap (λ x. map_or x tells_nothing (λ kept. tells_called (after_call kept call).1 (answers_in (after_call kept call).0))) there.1;
      leaves =
          ap (option_map (λ (kept : Kept Registers). record { struct = (after_call kept call).0; lowered = kept.lowered; since = kept.since })) there.1;
    }

exports_it : (structs : Structs) (act : Act) → may_act structs act ≡ true
    → Exports Themselves structs act (tells_by structs act) (left_by structs act)
exports_it structs (Makes d making) may =
    record {
      struct = made making;
      answers = answers_in (made making);
      made = making_is_made making;
      answered = answered (made making) may;
      tells = refl;
      leaves = refl;
    }
exports_it structs (Calls d call) may = called_it call (structs d) may
exports_it structs (Asks d counter) may = by (structs d) may
  where
    by : (o : Option (Kept Registers)) → map_or o false (λ kept. nat_le kept.since counter) ≡ true
        → IsAsked Themselves o counter (map_or o tells_nothing (λ kept. tells_report (report_in kept.struct (counter - kept.lowered))))
    by None may' = cc
    by (Some kept) may' =
        record {
          kept = kept;
          report = report_in kept.struct (counter - kept.lowered);
          there = refl;
          due = leb-true kept.since counter may';
          reported = report_is_told kept.struct (counter - kept.lowered);
          tells = refl;
        }
exports_it structs Passes may = refl

-- The network

-- the flight was brought in time to this device
abbrev is_brought : List Step → (reference device number : ℕ) → Flight → Bool
is_brought steps reference device number f =
    nat_eq f.receiver device && not (was_used steps number) && f.reaches && not (was_swept steps f) && nat_le reference f.last

abbrev may_come : List Step → Event → Bool
may_come steps (event.Recv reference device counter number) = map_or (flight_numbered steps number) false (is_brought steps reference device number)
may_come steps (event.Lose reference number) = false
may_come steps (event.End reference) = false
may_come steps _ = true

is_call : (setting : Setting) (steps : List Step) (e : Event) → may_come steps e ≡ true → IsCallOf setting steps e (act_by setting steps e)
is_call setting steps (event.Recv reference device counter number) may = by (flight_numbered steps number) refl may
  where
    by : (o : Option Flight) → flight_numbered steps number ≡ o → map_or o false (is_brought steps reference device number) ≡ true
        → IsDelivered steps reference device counter number (map_or o Passes (λ f. Calls device (calls.Receive f.link f.message counter)))
    by None sent may' = cc
    by (Some f) sent may' =
        let first = and_parts (nat_eq f.receiver device && not (was_used steps number) && f.reaches && not (was_swept steps f)) (nat_le reference f.last) may' in
        let second = and_parts (nat_eq f.receiver device && not (was_used steps number) && f.reaches) (not (was_swept steps f)) first.0 in
        let third = and_parts (nat_eq f.receiver device && not (was_used steps number)) f.reaches second.0 in
        let fourth = and_parts (nat_eq f.receiver device) (not (was_used steps number)) third.0 in
        record {
          flight = f;
          sent = sent;
          same = refl;
          end = eqb-true f.receiver device fourth.0;
          once = not-true (was_used steps number) fourth.1;
          up = third.1;
          unbroken = not-true (was_swept steps f) second.1;
          soon = leb-true reference f.last first.1;
        }
is_call setting steps (event.Lose reference number) may = cc
is_call setting steps (event.End reference) may = cc
is_call setting steps _ may = refl

-- Runs

-- the moment of the event may come: no cause of a refusal holds, but for the number of events
abbrev pub may_follow : Setting → List (Moment Registers) → Event → Bool
may_follow setting run e =
    let steps = steps_of setting run in
    may_tend (struct_in run) e
    && may_act (with_tended (struct_in run) (tended_before (struct_in run) e)) (act_by setting steps e)
    && may_come steps e && list_all (λ cause. not cause.1 || is_count cause.0) (causes setting steps e)

abbrev pub all_follow : Setting → List Event → Bool
all_follow setting [] = true
all_follow setting (e ∷ earlier) = all_follow setting earlier && may_follow setting (run_of setting earlier) e

pub is_deployment : (setting : Setting) (history : List Event) → all_follow setting history ≡ true → IsDeployment Themselves setting (run_of setting history)
is_deployment setting [] all = tt
is_deployment setting (e ∷ earlier) all =
    let run : List (Moment Registers) = run_of setting earlier in
    let steps : List Step = steps_of setting run in
    let structs : Structs = with_tended (struct_in run) (tended_before (struct_in run) e) in
    let parts = and_parts (all_follow setting earlier) (may_follow setting run e) all in
    let first = and_parts
    (may_tend (struct_in run) e && may_act structs (act_by setting steps e) && may_come steps e)
    (list_all (λ cause. not cause.1 || is_count cause.0) (causes setting steps e)) parts.1 in
    let second = and_parts (may_tend (struct_in run) e && may_act structs (act_by setting steps e)) (may_come steps e) first.0 in
    let third = and_parts (may_tend (struct_in run) e) (may_act structs (act_by setting steps e)) second.0 in (
      is_deployment setting earlier parts.0,
      record {
        tended = are_tended (struct_in run) e third.0;
        export = exports_it structs (act_by setting steps e) third.1;
        call = is_call setting steps e second.1;
        orderly = orderly_of setting steps e first.1;
      },
    )

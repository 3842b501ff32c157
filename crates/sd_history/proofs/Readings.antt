-- The counters of each life in a run never fall and do not pass the latest reading, and its duties are of plans: so each life is orderly.
use Rattle.std.specs.Prelude.{◌≡◌, ℕ, ◌≤◌, ◌+◌, Bool, true, false, ◌&&◌, ◌||◌, not, is_some, List, [], ◌∷◌, nat_eq, nat_lt, Option, Some, None, option_map, refl, if◌then◌else◌}
use Rattle.std.proofs.Common.{arith, sym, ◌∙◌, ap, subst}
use Rattle.std.proofs.lemmas.Bool.{eqb-true, ltb-false}
use Rattle.sd_num.specs.Lists.{map_or, same_number}
use Rattle.sd_plan.specs.declared.Plan.{Plan}
use Rattle.sd_plan.specs.Duties.{duty_of}
use Rattle.sd_device.specs.declared.msg.Flight.{Flight}
use Rattle.sd_device.specs.declared.node.Node.{Ghosts}
use Rattle.sd_device.specs.Calls as calls
use Rattle.sd_device.specs.Calls.{Making, Call}
use Rattle.sd_device.specs.Living.{Life}
use Rattle.sd_device.specs.Words.{making_counter, counter_of as counter_of_call}
use Rattle.sd_device.specs.Lives.{longer, latest_counter, BeginsOfAPlan, GivesOfAPlan, IsOrderly}
use Rattle.sd_device.specs.Standing.{alone}
use Rattle.sd_sched.specs.declared.Event.{Event}
use Rattle.sd_sched.specs.declared.Event.TheVariants as event
use Rattle.sd_sched.specs.Events.{device_of, counter_of}
use Rattle.sd_history.specs.Things.{failure_of, mended}
use Rattle.sd_history.specs.World.{Setting, Seen, latest_reading, epoch_in_force, staged}
use Rattle.sd_history.specs.Steps.{Act, Makes, Calls, Asks, Passes, Step, seen_of, act_by, flight_numbered}
use Rattle.sd_history.specs.Lives.{life_in, life_after}
use Rattle.sd_history.specs.Refusals.{counter_falls, makes_some}
use Rattle.sd_history.specs.Nodes.{NodeStep, steps_of}
use Rattle.sd_history.specs.Chronicle.{next_step, chronicle}
use Rattle.sd_history.specs.Admitted.{Admits, IsAdmitted, IsAdmittedRun}
use Rattle.sd_history.proofs.Clear.{clear}
use Rattle.sd_history.proofs.Given.{some_is}

-- Readings do not fall

pub grows : (b : Bool) (o : Option ℕ) (old : ℕ) → ((c : ℕ) → b ≡ true → o ≡ Some c → old ≤ c) → old ≤ map_or (if b then o else None) old (λ told. told)
grows true None old h = omega arith
grows true (Some c) old h = h c refl refl
grows false o old h = omega arith

pub not_falling : (m : Bool) (dev o : Option ℕ) (f : ℕ → ℕ) → (not m && map_or dev false (λ d. map_or o false (λ c. nat_lt c (f d)))) ≡ false → m ≡ false
    → (x c : ℕ) → same_number dev x ≡ true → o ≡ Some c → f x ≤ c
not_falling true dev o f falls none x c named reads = cc
not_falling false None o f falls none x c named reads = cc
not_falling false (Some d) None f falls none x c named reads = cc
not_falling false (Some d) (Some e) f falls none x c named reads =
    let same : d ≡ x = eqb-true d x named in
    let read : e ≡ c = some_is reads in
    let kept : f d ≤ e = ltb-false e (f d) falls in
    subst (λ y. f y ≤ c) same (subst (λ y. f d ≤ y) read kept)

pub admitted_goes_forward : (setting : Setting) (steps : List Step) (e : Event) → Admits setting steps e → counter_falls (seen_of steps) e ≡ false
admitted_goes_forward setting steps e admits =
    (clear setting steps e admits).counter_rises

-- What an event does

-- the event calls or asks a device: it makes, fails and mends nothing
abbrev pub addresses : Event → Bool
addresses e = not (makes_some e || is_some (failure_of e) || is_some (mended e))

-- the act is of the event's device, at its counter, and its duty is of a plan
abbrev pub IsOf : Event → Act → Type 0
IsOf e (Makes m making) = (device_of e ≡ Some m) × (counter_of e ≡ Some (making_counter making)) × BeginsOfAPlan making
IsOf e (Calls m call) =
    (makes_some e ≡ false) × (device_of e ≡ Some m) × (counter_of e ≡ counter_of_call call) × GivesOfAPlan call × (addresses e ≡ true)
IsOf e (Asks m counter) = (makes_some e ≡ false) × (device_of e ≡ Some m) × (addresses e ≡ true)
IsOf e Passes = makes_some e ≡ false

received_of : (r d c n : ℕ) (o : Option Flight) → IsOf (event.Recv r d c n) (map_or o Passes (λ f. Calls d (calls.Receive f.link f.message c)))
received_of r d c n None = refl
received_of r d c n (Some f) = (refl, refl, refl, tt, refl)

given_of : (setting : Setting) (r d epoch : ℕ) (o : Option Plan)
    → IsOf (event.Give r d) (map_or o Passes (λ plan. Calls d (calls.Give (duty_of setting.net plan (epoch + 1) d))))
given_of setting r d epoch None = refl
given_of setting r d epoch (Some plan) = (refl, refl, refl, omega arith, refl)

pub act_is_of : (setting : Setting) (steps : List Step) (e : Event) → IsOf e (act_by setting steps e)
act_is_of setting steps (event.Start r d c clock eps) = (refl, refl, omega arith)
act_is_of setting steps (event.Join r d c clock eps) = (refl, refl, tt)
act_is_of setting steps (event.Tick r d c) = (refl, refl, refl, tt, refl)
act_is_of setting steps (event.Recv r d c n) = received_of r d c n (flight_numbered steps n)
act_is_of setting steps (event.Fix r d c clock eps) = (refl, refl, refl, tt, refl)
act_is_of setting steps (event.Give r d) = given_of setting r d (epoch_in_force (seen_of steps)) (staged setting (seen_of steps))
act_is_of setting steps (event.Commit r d c) = (refl, refl, refl, tt, refl)
act_is_of setting steps (event.Seal r d) = (refl, refl, refl, tt, refl)
act_is_of setting steps (event.Ask r d c) = (refl, refl, refl)
act_is_of setting steps _ = refl

-- Lives

-- the life is orderly, and its device was read no earlier than it was called last
pub record Reads (seen : List Seen) (d : ℕ) (life : Life) : Type 0 where
  pub orderly : IsOrderly life
  pub read : latest_counter life.making life.calls ≤ latest_reading seen d

abbrev pub AllRead : List Step → Type 0
AllRead steps = (d : ℕ) (life : Life) → life_in steps d ≡ Some life → Reads (seen_of steps) d life

module _ (setting : Setting) (steps : List Step) (s : Step) (admits : Admits setting steps s.seen.event) (before : AllRead steps) where
  abbrev e : Event
  e = s.seen.event

  abbrev old : ℕ → ℕ
  old = latest_reading (seen_of steps)

  abbrev new : ℕ → ℕ
  new = latest_reading (seen_of (s ∷ steps))

  forward : makes_some e ≡ false → (d c : ℕ) → same_number (device_of e) d ≡ true → counter_of e ≡ Some c → old d ≤ c
  forward makes_not d c named reads =
      not_falling (makes_some e) (device_of e) (counter_of e) old (admitted_goes_forward setting steps e admits) makes_not d c named reads

  rises : makes_some e ≡ false → (d : ℕ) → old d ≤ new d
  rises makes_not d = grows (same_number (device_of e) d) (counter_of e) (old d) (λ c named reads. forward makes_not d c named reads)

  still : (d : ℕ) (life : Life) → old d ≤ new d → life_in steps d ≡ Some life → Reads (seen_of (s ∷ steps)) d life
  still d life le is = let r = before d life is in let read = r.read in record { orderly = r.orderly; read = omega (arith, read, le) }

  named_is : (m d : ℕ) → device_of e ≡ Some m → nat_eq m d ≡ true → same_number (device_of e) d ≡ true
  named_is m d named same = ap (λ o. same_number o d) named ∙ same

  reads_here : (d c : ℕ) → same_number (device_of e) d ≡ true → counter_of e ≡ Some c → new d ≡ c
  reads_here d c named reads =
      ap (λ b. map_or (if b then counter_of e else None) (old d) (λ told. told)) named ∙ ap (λ o. map_or o (old d) (λ told. told)) reads

  made_reads : (m : ℕ) (making : Making) → IsOf e (Makes m making) → (d : ℕ) (life : Life) (b : Bool) → nat_eq m d ≡ b
      → (if b then Some (alone making) else life_in steps d) ≡ Some life → Reads (seen_of (s ∷ steps)) d life
  made_reads m making of_ d life true same is =
      let reading : new d ≡ making_counter making = reads_here d (making_counter making) (named_is m d of_.0 same) of_.1 in
      subst (Reads (seen_of (s ∷ steps)) d) (some_is is)
      (record { orderly = record { never_falls = tt; of_plans = of_.2 }; read = omega (arith, reading) })
  made_reads m making of_ d life false other is =
      let apart : same_number (device_of e) d ≡ false = ap (λ o. same_number o d) of_.0 ∙ other in
      still d life (grows (same_number (device_of e) d) (counter_of e) (old d) (λ c named reads. cc)) is

  longer_reads : (m : ℕ) (call : Call) → IsOf e (Calls m call) → (d : ℕ) → nat_eq m d ≡ true → (life : Life) → Reads (seen_of steps) d life
      → Reads (seen_of (s ∷ steps)) d (longer life call)
  longer_reads m call of_ d same life r =
      record {
        orderly = record {
          never_falls = (
            r.orderly.never_falls,
            λ c has. (let read = r.read in let due = forward of_.0 d c (named_is m d of_.1 same) (of_.2 ∙ has) in omega (arith, read, due)),
          );
          of_plans = (r.orderly.of_plans, of_.3);
        };
        read = by (counter_of_call call) refl;
      }
    where
      by : (o : Option ℕ) → counter_of_call call ≡ o → map_or o (latest_counter life.making life.calls) (λ counter. counter) ≤ new d
      by None has = let read = r.read in let le = rises of_.0 d in omega (arith, read, le)
      by (Some c) has = let reading = reads_here d c (named_is m d of_.1 same) (of_.2 ∙ has) in omega (arith, reading)

  called_reads : (m : ℕ) (call : Call) → IsOf e (Calls m call) → (d : ℕ) (life : Life) (b : Bool) → nat_eq m d ≡ b → (o : Option Life) → life_in steps d ≡ o
      → (if b then option_map (λ l. longer l call) o else o) ≡ Some life → Reads (seen_of (s ∷ steps)) d life
  called_reads m call of_ d life true same None at is = cc
  called_reads m call of_ d life true same (Some l) at is =
      subst (Reads (seen_of (s ∷ steps)) d) (some_is is) (longer_reads m call of_ d same l (before d l at))
  called_reads m call of_ d life false other o at is = still d life (rises of_.0 d) (at ∙ is)

  act_reads : (act : Act) → IsOf e act → (d : ℕ) (life : Life) → life_after act d (life_in steps d) ≡ Some life → Reads (seen_of (s ∷ steps)) d life
  act_reads (Makes m making) of_ d life is = made_reads m making of_ d life (nat_eq m d) refl is
  act_reads (Calls m call) of_ d life is = called_reads m call of_ d life (nat_eq m d) refl (life_in steps d) refl is
  act_reads (Asks m counter) of_ d life is = still d life (rises of_.0 d) is
  act_reads Passes of_ d life is = still d life (rises of_ d) is

  pub step_reads : s.act ≡ act_by setting steps e → AllRead (s ∷ steps)
  step_reads same d life is = act_reads s.act (subst (IsOf e) (sym same) (act_is_of setting steps e)) d life is

-- of any kind of node
pub run_reads : {N : Type 0} (g : Ghosts N) (setting : Setting) (run : List (NodeStep N)) → IsAdmittedRun g setting run → AllRead (steps_of run)
run_reads g setting [] is = λ d life here. cc
run_reads g setting (x ∷ earlier) is =
    step_reads setting (steps_of earlier) x.step is.1 (run_reads g setting earlier is.0) (ap (λ (s : Step). s.act) is.2.is)

-- in every history
pub history_reads : (setting : Setting) (history : List Event) → IsAdmitted setting history → AllRead (chronicle setting history)
history_reads setting [] is = λ d life here. cc
history_reads setting (e ∷ earlier) is =
    step_reads setting (chronicle setting earlier) (next_step setting (chronicle setting earlier) e) is.1 (history_reads setting earlier is.0) refl

-- What was sent after a port was opened reaches the device.
use Rattle.std.specs.Prelude.{◌≡◌, ℕ, ◌+◌, ◌<◌, ◌≤◌, Bool, true, false, ◌&&◌, ◌||◌, not, List, [], ◌∷◌, ◌++◌, nat_eq, Option, Some, None, refl, if◌then◌else◌}
use Rattle.std.specs.List.{list_any}
use Rattle.std.proofs.Common.{arith, sym, ◌∙◌, ap, subst, inl, inr}
use Rattle.std.proofs.lemmas.Bool.{and_from, or_from, eq-eqb, ltb-false}
use Rattle.sd_num.specs.Lists.{map_or}
use Rattle.sd_plan.specs.declared.topo.Thing.TheVariants as thing
use Rattle.sd_sched.specs.declared.Event.{Event}
use Rattle.sd_sched.specs.Events.{reference_of}
use Rattle.sd_device.specs.declared.msg.Flight.{Flight}
use Rattle.sd_device.specs.declared.Effect.{Effect}
use Rattle.sd_device.specs.declared.Effect.TheVariants.{Quiet, Send}
use Rattle.sd_device.specs.declared.registers.Registers.{Registers}
use Rattle.sd_history.specs.World.{Setting, is_thing, fails, makes, is_up, failed_after, link_has_failed, latest_reference}
use Rattle.sd_history.specs.Things.{mended}
use Rattle.sd_history.specs.Steps.{Act, Answers, Told, Step, seen_of, changed, act_by, flights, flight_count, flights_by, flights_of, ends_at, step_of}
use Rattle.sd_history.specs.Refusals.{since_sending, was_swept}
use Rattle.sd_history.proofs.Among.{Among, either_side, found, first, later}
use Rattle.sd_history.proofs.flights.Sending.{over_ends}
use Rattle.sd_safety.proofs.messages.Opening.{up_stays_by}
use Rattle.sd_beside.specs.deployment.Deployment.{Moment, steps_of, IsDeployment}
use Rattle.sd_beside.specs.deployment.Ports.{OpenPortDelivers}

-- What a step sends

-- the flight was sent at this reference, and reaches its device if both its link and its device work
record IsSentAt (steps : List Step) (reference : ℕ) (f : Flight) : Type 0 where
  sent_at : f.sent_at ≡ reference
  reaches : f.reaches ≡ (not (link_has_failed (seen_of steps) f.link) && is_up (seen_of steps) f.receiver)

sent_over : (setting : Setting) (steps : List Step) (r : ℕ) (act : Act) (told : Told) (f : Flight) → Among f (flights_of setting steps r act told)
    → IsSentAt steps r f
sent_over setting steps r act told f a = by_answers (changed act) told.answers a
  where
    by_effect : (d epoch : ℕ) (effect : Effect) → Among f (flights_by setting steps r d epoch effect) → IsSentAt steps r f
    by_effect d epoch Quiet b = elim b [ ]
    by_effect d epoch (Send m) b =
        let over = over_ends setting steps r d m (flight_count steps + 1) (ends_at setting steps epoch d) f b in
        subst (IsSentAt steps r) (sym over.is) (record { sent_at = refl; reaches = refl })

    by_answers : (o : Option ℕ) (answers : Option Answers)
        → Among f (map_or o [] (λ d. map_or answers [] (λ b. flights_by setting steps r d b.epoch told.effect))) → IsSentAt steps r f
    by_answers None answers b = elim b [ ]
    by_answers (Some d) None b = elim b [ ]
    by_answers (Some d) (Some answers) b = by_effect d answers.epoch told.effect b

-- What stays while nothing fails

works_on : (link : ℕ) (e : Event) (before : Bool) → fails (thing.Link link) e ≡ false → before ≡ false
    → map_or (failed_after (thing.Link link) e) before (λ failed. failed) ≡ false
works_on link e before none works = by (is_thing (mended e) (thing.Link link)) (fails (thing.Link link) e) none
  where
    by : (mend fail : Bool) → fail ≡ false → map_or (if fail then Some true else if mend then Some false else None) before (λ failed. failed) ≡ false
    by mend true none' = cc
    by true false none' = refl
    by false false none' = works

neither : (a b : Bool) → (a || b) ≡ false → (a ≡ false) × (b ≡ false)
neither false false none = (refl, refl)
neither false true none = cc
neither true b none = cc

-- the link and the device fail at no step of these
abbrev some_fails : ℕ → ℕ → List Step → Bool
some_fails link device steps = list_any (λ s. fails (thing.Link link) s.seen.event || fails (thing.Device device) s.seen.event) steps

record AreWorking (steps : List Step) (device link : ℕ) : Type 0 where
  up : is_up (seen_of steps) device ≡ true
  works : link_has_failed (seen_of steps) link ≡ false

working : (device link : ℕ) (later earlier : List Step) → AreWorking earlier device link → some_fails link device later ≡ false
    → AreWorking (later ++ earlier) device link
working device link [] earlier work none = work
working device link (s ∷ others) earlier work none =
    let e = s.seen.event in
    let parts = neither (fails (thing.Link link) e || fails (thing.Device device) e) (some_fails link device others) none in
    let now = neither (fails (thing.Link link) e) (fails (thing.Device device) e) parts.0 in
    let before : AreWorking (others ++ earlier) device link = working device link others earlier work parts.1 in
    record {
      up = up_stays_by (makes device e) (fails (thing.Device device) e) (is_up (seen_of (others ++ earlier)) device) now.1 before.up;
      works = works_on link e (link_has_failed (seen_of (others ++ earlier)) link) now.0 before.works;
    }

-- Runs

-- the flight is among these
has_number : (f : Flight) (fs : List Flight) → Among f fs → list_any (λ g. nat_eq g.number f.number) fs ≡ true
has_number f [] a = elim a [ ]
has_number f (g ∷ fs) first = ap (λ b. b || list_any (λ g. nat_eq g.number f.number) fs) (eq-eqb f.number f.number refl)
has_number f (g ∷ fs) (later a) = more (nat_eq g.number f.number) (list_any (λ h. nat_eq h.number f.number) fs) (has_number f fs a)
  where
    more : (a b : Bool) → b ≡ true → (a || b) ≡ true
    more true b there = refl
    more false b there = there

-- no step since the sending fails anything, where that holds of the others and of this one
swept_on : (some : List Step → Bool) (s : Step) (b : Bool) (others : List Step) → some [] ≡ false → some (s ∷ others) ≡ false
    → some (if b then s ∷ others else []) ≡ false
swept_on some s true others none all = all
swept_on some s false others none all = none

module _ {S : Type 0} (Holds : S → Registers → Type 0) (setting : Setting) where
  -- each flight was sent by now
  sent_before : (run : List (Moment S)) → IsDeployment Holds setting run → (f : Flight) → Among f (flights (steps_of setting run))
      → f.sent_at ≤ latest_reference (seen_of (steps_of setting run))
  sent_before [] is f a = elim a [ ]
  sent_before (x ∷ run) is f a =
      let steps = steps_of setting run in
      elim (either_side (flights_of setting steps (reference_of x.event) (act_by setting steps x.event) x.told) (flights steps) a) [
        | inl here ↦
            (let sent = (sent_over setting steps (reference_of x.event) (act_by setting steps x.event) x.told f here).sent_at in omega (arith, sent))
        | inr before ↦
            (let sent = sent_before run is.0 f before in
            let goes = ltb-false (reference_of x.event) (latest_reference (seen_of steps)) is.1.orderly.time in
            omega (arith, sent, goes))
      ]

  delivered : (run : List (Moment S)) → IsDeployment Holds setting run → (later earlier : List Step) → steps_of setting run ≡ later ++ earlier
      → (reference : ℕ) (f : Flight) → latest_reference (seen_of earlier) ≤ reference → AreWorking earlier f.receiver f.link
      → some_fails f.link f.receiver later ≡ false → reference < f.sent_at → Among f (flights (steps_of setting run))
      → (f.reaches ≡ true) × (was_swept (steps_of setting run) f ≡ false)
  delivered run is [] earlier are reference f begun work none late a =
      let sent = sent_before run is f a in
      let old : latest_reference (seen_of (steps_of setting run)) ≤ reference = subst (λ steps. latest_reference (seen_of steps) ≤ reference) (sym are) begun in
      absurd (omega (arith, sent, old, late))
  delivered [] is (s ∷ others) earlier are reference f begun work none late a = cc
  delivered (x ∷ run) is (s ∷ others) earlier are reference f begun work none late a =
      elim (either_side (flights_of setting steps (reference_of x.event) (act_by setting steps x.event) x.told) (flights steps) a) [
        | inl here ↦ (reaches_now here, ends_here here)
        | inr before ↦ (let old = delivered run is.0 others earlier same.1 reference f begun work parts.1 late before in (old.0, not_now old.1))
      ]
    where
      steps : List Step
      steps = steps_of setting run

      step : Step
      step = step_of setting steps x.event x.told

      same : (step ≡ s) × (steps ≡ others ++ earlier)
      same = (ap (λ l. map_first step l) are, ap (λ l. rest_of l) are)
        where
          map_first : Step → List Step → Step
          map_first other [] = other
          map_first other (y ∷ ys) = y

          rest_of : List Step → List Step
          rest_of [] = []
          rest_of (y ∷ ys) = ys

      parts : ((fails (thing.Link f.link) x.event || fails (thing.Device f.receiver) x.event) ≡ false) × (some_fails f.link f.receiver others ≡ false)
      parts =
          let both = neither (fails (thing.Link f.link) s.seen.event || fails (thing.Device f.receiver) s.seen.event) (some_fails f.link f.receiver others) none in
          (subst (λ (y : Step). (fails (thing.Link f.link) y.seen.event || fails (thing.Device f.receiver) y.seen.event) ≡ false) (sym same.0) both.0, both.1)

      reaches_now : Among f (flights_of setting steps (reference_of x.event) (act_by setting steps x.event) x.told) → f.reaches ≡ true
      reaches_now here =
          let sent : IsSentAt steps (reference_of x.event) f = sent_over setting steps (reference_of x.event) (act_by setting steps x.event) x.told f here in
          let now : AreWorking steps f.receiver f.link =
          subst (λ l. AreWorking l f.receiver f.link) (sym same.1) (working f.receiver f.link others earlier work parts.1) in
          sent.reaches
          ∙ and_from (not (link_has_failed (seen_of steps) f.link)) (is_up (seen_of steps) f.receiver) (ap not now.works) now.up

      ends_here : Among f (flights_of setting steps (reference_of x.event) (act_by setting steps x.event) x.told) → was_swept (step ∷ steps) f ≡ false
      ends_here here =
          ap (λ b. some_fails f.link f.receiver (if not b then step ∷ since_sending steps f.number else [])) (has_number f step.sent here)

      not_now : was_swept steps f ≡ false → was_swept (step ∷ steps) f ≡ false
      not_now old =
          swept_on (some_fails f.link f.receiver) step (not (list_any (λ g. nat_eq g.number f.number) step.sent)) (since_sending steps f.number) refl
          (or_from (fails (thing.Link f.link) x.event || fails (thing.Device f.receiver) x.event) (some_fails f.link f.receiver (since_sending steps f.number))
          parts.0 old)

  pub open_port_delivers : OpenPortDelivers Holds setting
  open_port_delivers run number flight opening is numbered port taken =
      delivered run is port.later port.earlier port.are opening.reference flight port.begun (record { up = port.up; works = port.works }) port.unbroken
      (taken.later taken.lowered opening flight taken.reference taken.stands taken.comes)
      (found (λ f. nat_eq f.number number) flight (flights (steps_of setting run)) numbered)

-- While clocks, oscillators and links are honest, so is each lineage: each reading of it is one of a present life.
use Rattle.std.specs.Prelude.{◌≡◌, ℕ, Bool, true, false, ◌&&◌, List, [], ◌∷◌, find, nat_eq, Option, Some, None, is_some, option_map, option_and_then, refl, if◌then◌else◌}
use Rattle.std.specs.List.{list_all}
use Rattle.std.specs.Option.{option_or}
use Rattle.std.proofs.Common.{sym, ap, subst}
use Rattle.std.proofs.lemmas.Bool.{and_parts, and_from}
use Rattle.sd_num.specs.Lists.{map_or, same_number}
use Rattle.sd_plan.specs.topo.Network.{rates_of}
use Rattle.sd_device.specs.declared.msg.Flight.{Flight}
use Rattle.sd_sched.specs.declared.Event.{Event}
use Rattle.sd_sched.specs.declared.Event.TheVariants as event
use Rattle.sd_sched.specs.Events.{reference_of, device_of, counter_of}
use Rattle.sd_sched.specs.Honesty.{sets_true_clock, keeps_reading}
use Rattle.sd_history.specs.World.{Setting, Seen, makes}
use Rattle.sd_history.specs.Steps.{Step, seen_of, flight_numbered}
use Rattle.sd_history.specs.Chronicle.{next_step, chronicle}
use Rattle.sd_history.specs.Premises.{readings, is_in_time, is_honest, start_holds, drift_holds, delay_holds, reads_honestly, arrives_in_time}
use Rattle.sd_history.proofs.Among.{Among, passes, readings_kept, reading_here}
use Rattle.sd_history.proofs.Given.{some_is}
use Rattle.sd_beside.specs.lineage.Lineage.{Lineage, is_honest_lineage, Descent, set_at, come_at, held_to, accepts, descent_set, descent_after, lineage_sent, lineages, report_lineage}
use Rattle.sd_beside.specs.lineage.Laws.{HonestLineage}

-- What is kept

-- an estimate was set at a reading of the device's present life, and its lineage is honest
record IsHonestDescent (setting : Setting) (seen : List Seen) (d : ℕ) (x : Descent) : Type 0 where
  read : Among {A = ℕ × ℕ} x.at (readings seen d)
  honest : is_honest_lineage setting x.from ≡ true

record AreHonest (setting : Setting) (steps : List Step) : Type 0 where
  device : (d : ℕ) (x : Descent) → (lineages steps).of_device d ≡ Some x → IsHonestDescent setting (seen_of steps) d x
  flight : (n : ℕ) (l : Lineage) → (lineages steps).of_flight n ≡ Some l → is_honest_lineage setting l ≡ true

-- the latest event is honest
record HappensHonestly (setting : Setting) (steps : List Step) (e : Event) : Type 0 where
  start : sets_true_clock e ≡ true
  drift : reads_honestly setting (next_step setting steps e).seen (seen_of steps) ≡ true
  delay : arrives_in_time setting (next_step setting steps e).seen ≡ true

parts_of : (setting : Setting) (steps : List Step) (e : Event) → is_honest setting (seen_of (next_step setting steps e ∷ steps)) ≡ true
    → (is_honest setting (seen_of steps) ≡ true) × HappensHonestly setting steps e
parts_of setting steps e honest =
    let s : Seen = (next_step setting steps e).seen in
    let seen : List Seen = seen_of steps in
    let outer = and_parts (start_holds (s ∷ seen) && drift_holds setting (s ∷ seen)) (delay_holds setting (s ∷ seen)) honest in
    let inner = and_parts (start_holds (s ∷ seen)) (drift_holds setting (s ∷ seen)) outer.0 in
    let start = and_parts (sets_true_clock e) (start_holds seen) inner.0 in
    let drift = and_parts (drift_holds setting seen) (reads_honestly setting s seen) inner.1 in
    let delay = and_parts (arrives_in_time setting s) (delay_holds setting seen) outer.1 in (
      and_from (start_holds seen && drift_holds setting seen) (delay_holds setting seen)
          (and_from (start_holds seen) (drift_holds setting seen) start.1 drift.0) delay.1,
      record { start = start.0; drift = drift.1; delay = delay.0 },
    )

-- what an event sets is set at its own reading
record IsSetAt (setting : Setting) (e : Event) (x : Descent) : Type 0 where
  counter : ℕ
  reads : counter_of e ≡ Some counter
  at : x.at ≡ (reference_of e, counter)
  honest : is_honest_lineage setting x.from ≡ true

-- the event makes none but the device that it names
makes_named : (e : Event) (d : ℕ) → same_number (device_of e) d ≡ false → makes d e ≡ false
makes_named (event.Start r k c clock eps) d other = rw other refl
makes_named (event.Join r k c clock eps) d other = other
makes_named _ d other = refl

module _ (setting : Setting) (steps : List Step) (inv : AreHonest setting steps) where
  clock_is : (e : Event) (r c clock eps : ℕ) (x : Descent) → counter_of e ≡ Some c → reference_of e ≡ r
      → is_honest_lineage setting (set_at r c clock eps).from ≡ true → Some (set_at r c clock eps) ≡ Some x → IsSetAt setting e x
  clock_is e r c clock eps x reads at true_ same =
      subst (IsSetAt setting e) (some_is same)
      (record { counter = c; reads = reads; at = ap (λ t. (t, c)) (sym at); honest = true_ })

  received : (r d c n : ℕ) (x : Descent) (o : Option Flight) → map_or o true (is_in_time setting r) ≡ true
      → option_and_then (λ f. if accepts steps d f c then option_map (come_at r c f) ((lineages steps).of_flight n) else None) o ≡ Some x
      → IsSetAt setting (event.Recv r d c n) x
  received r d c n x None in_time same = cc
  received r d c n x (Some f) in_time same = by (accepts steps d f c) ((lineages steps).of_flight n) refl same
    where
      by : (b : Bool) (o : Option Lineage) → (lineages steps).of_flight n ≡ o → (if b then option_map (come_at r c f) o else None) ≡ Some x
          → IsSetAt setting (event.Recv r d c n) x
      by true (Some l) there is =
          subst (IsSetAt setting (event.Recv r d c n)) (some_is is)
          (record {
            counter = c;
            reads = refl;
            at = refl;
            honest = and_from (is_honest_lineage setting l) (is_in_time setting r f) (inv.flight n l there) in_time;
          })
      by true None there is = cc
      by false o there is = cc

  set_so : (e : Event) → HappensHonestly setting steps e → (x : Descent) → descent_set steps (lineages steps) e ≡ Some x → IsSetAt setting e x
  set_so (event.Start r d c clock eps) happens x same = clock_is (event.Start r d c clock eps) r c clock eps x refl refl happens.start same
  set_so (event.Join r d c clock eps) happens x same = clock_is (event.Join r d c clock eps) r c clock eps x refl refl happens.start same
  set_so (event.Fix r d c clock eps) happens x same = clock_is (event.Fix r d c clock eps) r c clock eps x refl refl happens.start same
  set_so (event.Recv r d c n) happens x same = received r d c n x (flight_numbered steps n) happens.delay same
  set_so _ happens x same = cc

  -- what sets nothing makes no device
  made_none : (e : Event) (d : ℕ) → descent_set steps (lineages steps) e ≡ None → makes d e ≡ false
  made_none (event.Start r k c clock eps) d none = cc
  made_none (event.Join r k c clock eps) d none = cc
  made_none _ d none = refl

  module _ (e : Event) (happens : HappensHonestly setting steps e) where
    kept : (d : ℕ) (x : Descent) → makes d e ≡ false → (lineages steps).of_device d ≡ Some x
        → IsHonestDescent setting (seen_of (next_step setting steps e ∷ steps)) d x
    kept d x unmade there =
        record {
          read = readings_kept (next_step setting steps e).seen (seen_of steps) d x.at unmade (inv.device d x there).read;
          honest = (inv.device d x there).honest;
        }

    set_here : (d : ℕ) (x : Descent) → same_number (device_of e) d ≡ true → IsSetAt setting e x
        → IsHonestDescent setting (seen_of (next_step setting steps e ∷ steps)) d x
    set_here d x named is =
        record {
          read = subst (λ (a : ℕ × ℕ). Among a (readings (seen_of (next_step setting steps e ∷ steps)) d)) (sym is.at)
              (reading_here (next_step setting steps e).seen (seen_of steps) d is.counter named is.reads);
          honest = is.honest;
        }

    device_by : (d : ℕ) (x : Descent) (b : Bool) (o : Option Descent) → same_number (device_of e) d ≡ b → descent_set steps (lineages steps) e ≡ o
        → (if b then option_or o ((lineages steps).of_device d) else (lineages steps).of_device d) ≡ Some x
        → IsHonestDescent setting (seen_of (next_step setting steps e ∷ steps)) d x
    device_by d x true None named sets same = kept d x (made_none e d sets) same
    device_by d x true (Some y) named sets same =
        subst (IsHonestDescent setting (seen_of (next_step setting steps e ∷ steps)) d) (some_is same) (set_here d y named (set_so e happens y sets))
    device_by d x false o named sets same = kept d x (makes_named e d named) same

    devices : (d : ℕ) (x : Descent) → descent_after steps (lineages steps) e d ≡ Some x
        → IsHonestDescent setting (seen_of (next_step setting steps e ∷ steps)) d x
    devices d x same = device_by d x (same_number (device_of e) d) (descent_set steps (lineages steps) e) refl refl same

  -- what a device held up to an honest reading
  held_so : (r d c : ℕ) → list_all (keeps_reading (rates_of setting.net d) (r, c)) (readings (seen_of steps) d) ≡ true → (o : Option Descent)
      → (lineages steps).of_device d ≡ o → (l : Lineage) → option_map (held_to d (r, c)) o ≡ Some l → is_honest_lineage setting l ≡ true
  held_so r d c all None there l same = cc
  held_so r d c all (Some x) there l same =
      subst (λ y. is_honest_lineage setting y ≡ true) (some_is same)
      (and_from (is_honest_lineage setting x.from) (keeps_reading (rates_of setting.net d) (r, c) x.at) (inv.device d x there).honest
      (passes (keeps_reading (rates_of setting.net d) (r, c)) (inv.device d x there).read all))

  -- where an event leaves the estimate of its device
  unset_at : (b : Bool) (o : Option Descent) (r d c : ℕ) (l : Lineage) → option_map (held_to d (r, c)) (if b then option_or None o else o) ≡ Some l
      → option_map (held_to d (r, c)) o ≡ Some l
  unset_at true o r d c l same = same
  unset_at false o r d c l same = same

  passed_on : (e : Event) → HappensHonestly setting steps e → (d : ℕ) (l : Lineage) (o : Option Descent) → descent_after steps (lineages steps) e d ≡ o
      → option_map (λ (x : Descent). x.from) o ≡ Some l → is_honest_lineage setting l ≡ true
  passed_on e happens d l None there same = cc
  passed_on e happens d l (Some x) there same =
      subst (λ y. is_honest_lineage setting y ≡ true) (some_is same) (devices e happens d x there).honest

  sent_so : (e : Event) → HappensHonestly setting steps e → (l : Lineage) → lineage_sent (descent_after steps (lineages steps) e) e ≡ Some l
      → is_honest_lineage setting l ≡ true
  sent_so (event.Tick r d c) happens l same =
      held_so r d c happens.drift ((lineages steps).of_device d) refl l (unset_at (nat_eq d d) ((lineages steps).of_device d) r d c l same)
  sent_so (event.Recv r d c n) happens l same =
      passed_on (event.Recv r d c n) happens d l (descent_after steps (lineages steps) (event.Recv r d c n) d) refl same
  sent_so _ happens l same = cc

  flight_by : (e : Event) → HappensHonestly setting steps e → (n : ℕ) (l : Lineage) (b : Bool)
      → (if b then lineage_sent (descent_after steps (lineages steps) e) e else (lineages steps).of_flight n) ≡ Some l → is_honest_lineage setting l ≡ true
  flight_by e happens n l true same = sent_so e happens l same
  flight_by e happens n l false same = inv.flight n l same

  honest_step : (e : Event) → HappensHonestly setting steps e → AreHonest setting (next_step setting steps e ∷ steps)
  honest_step e happens =
      record {
        device = devices e happens;
        flight = λ n l same. flight_by e happens n l (is_some (find (λ f. nat_eq f.number n) (next_step setting steps e).sent)) same;
      }

  reported_so : (e : Event) → HappensHonestly setting steps e → (l : Lineage) → report_lineage (next_step setting steps e ∷ steps) ≡ Some l
      → is_honest_lineage setting l ≡ true
  reported_so (event.Ask r d c) happens l same = held_so r d c happens.drift ((lineages steps).of_device d) refl l same
  reported_so _ happens l same = cc

-- Whole histories

all_honest : (setting : Setting) (history : List Event) → is_honest setting (seen_of (chronicle setting history)) ≡ true
    → AreHonest setting (chronicle setting history)
all_honest setting [] honest = record { device = λ d x same. cc; flight = λ n l same. cc }
all_honest setting (e ∷ earlier) honest =
    let parts = parts_of setting (chronicle setting earlier) e honest in
    honest_step setting (chronicle setting earlier) (all_honest setting earlier parts.0) e parts.1

by_history : (setting : Setting) (history : List Event) (l : Lineage) → is_honest setting (seen_of (chronicle setting history)) ≡ true
    → report_lineage (chronicle setting history) ≡ Some l → is_honest_lineage setting l ≡ true
by_history setting [] l honest same = cc
by_history setting (e ∷ earlier) l honest same =
    let parts = parts_of setting (chronicle setting earlier) e honest in
    reported_so setting (chronicle setting earlier) (all_honest setting earlier parts.0) e parts.1 l same

pub honest_lineage : (setting : Setting) → HonestLineage setting
honest_lineage setting history x lineage is honest reported = by_history setting history lineage honest reported.lineage_is

-- Of one device alone: while its clock and its oscillator are honest, each report has its reference time in it.
use Rattle.std.specs.Prelude.{Option, ◌≡◌, ℕ, ◌-◌, ◌≤◌, true, List, [], ◌∷◌, Some, IsTrue, nat_le, refl}
use Rattle.std.specs.List.{list_all}
use Rattle.std.proofs.Common.{arith, sym, subst}
use Rattle.std.proofs.lemmas.Bool.{and_parts, and_from, leb-true, le-leb, not-false}
use Rattle.sd_num.specs.Numbers.{distance, keeps_rate}
use Rattle.sd_num.specs.Lists.{map_or, find_map_or}
use Rattle.sd_num.specs.clock.Estimates.{report_of, contains}
use Rattle.sd_num.proofs.clock.Containment.{report_is_near, near_is_contained}
use Rattle.sd_num.specs.declared.clock.Report.{Report}
use Rattle.sd_sched.specs.declared.Event.{Event}
use Rattle.sd_sched.specs.declared.Event.TheVariants as event
use Rattle.sd_sched.specs.Events.{reference_of}
use Rattle.sd_commands.specs.solo.Histories.{report_by, rates, was_started, estimate_now, IsHistory, situation}
use Rattle.sd_sched.specs.Honesty.{sets_true_clock}
use Rattle.sd_commands.specs.solo.Promises.{start_holds, drift_holds, keeps_with, ReportsContain}
use Rattle.sd_commands.proofs.solo.Accepted.{reference_goes_on, started_before}

-- where a device sets its estimate: the reference of that event, how near its clock was then, and what the readings since then keep
record Anchor (events : List Event) (counter reference : ℕ) : Type 0 where
  origin : ℕ
  near : distance (estimate_now events).clock origin ≤ (estimate_now events).base
  later : origin ≤ reference
  keeps : IsTrue (keeps_rate rates (counter - (estimate_now events).at) (reference - origin))

passed_on : (es : List Event) (e : Event) (counter reference : ℕ) → estimate_now (e ∷ es) ≡ estimate_now es → Anchor es counter reference
    → Anchor (e ∷ es) counter reference
passed_on es e counter reference same a =
    record {
      origin = a.origin;
      near = subst (λ x. distance x.clock a.origin ≤ x.base) (sym same) a.near;
      later = a.later;
      keeps = subst (λ x. IsTrue (keeps_rate rates (counter - x.at) (reference - a.origin))) (sym same) a.keeps;
    }

anchored : (events : List Event) (counter reference : ℕ) → IsTrue (was_started events) → IsTrue (start_holds events)
    → IsTrue (list_all (keeps_with counter reference) events)
    → IsTrue (list_all (λ x. nat_le (reference_of x) reference) events) → Anchor events counter reference
anchored [] counter reference started truly keeps before = cc
anchored (event.Start r d at clock eps ∷ es) counter reference started truly keeps before =
    record {
      origin = r;
      near = leb-true (distance clock r) eps (and_parts (nat_le (distance clock r) eps) (start_holds es) truly).0;
      later = leb-true r reference (and_parts (nat_le r reference) (list_all (λ x. nat_le (reference_of x) reference) es) before).0;
      keeps = (and_parts (keeps_rate rates (counter - at) (reference - r)) (list_all (keeps_with counter reference) es) keeps).0;
    }
anchored (event.Fix r d at clock eps ∷ es) counter reference started truly keeps before =
    record {
      origin = r;
      near = leb-true (distance clock r) eps (and_parts (nat_le (distance clock r) eps) (start_holds es) truly).0;
      later = leb-true r reference (and_parts (nat_le r reference) (list_all (λ x. nat_le (reference_of x) reference) es) before).0;
      keeps = (and_parts (keeps_rate rates (counter - at) (reference - r)) (list_all (keeps_with counter reference) es) keeps).0;
    }
anchored (e ∷ es) counter reference started truly keeps before =
    passed_on es e counter reference refl
    (anchored es counter reference started (and_parts (sets_true_clock e) (start_holds es) truly).1
    (and_parts (keeps_with counter reference e) (list_all (keeps_with counter reference) es) keeps).1
    (and_parts (nat_le (reference_of e) reference) (list_all (λ x. nat_le (reference_of x) reference) es) before).1)

before_all : (events : List Event) (reference : ℕ) → IsHistory events → find_map_or (λ x. Some (reference_of x)) events 0 ≤ reference
    → IsTrue (list_all (λ x. nat_le (reference_of x) reference) events)
unfolding IsHistory
before_all [] reference history late = refl
before_all (e ∷ earlier) reference history late =
    and_from (nat_le (reference_of e) reference) (list_all (λ x. nat_le (reference_of x) reference) earlier) (le-leb (reference_of e) reference late)
    (before_all earlier reference history.0 (omega (arith, late, reference_goes_on (situation earlier) e history.2)))

asked : (r d counter : ℕ) (earlier : List Event) → IsHistory (event.Ask r d counter ∷ earlier) → IsTrue (start_holds earlier)
    → IsTrue (list_all (keeps_with counter r) earlier)
    → IsTrue (contains (report_of rates (estimate_now earlier) counter) r)
unfolding IsHistory
asked r d counter earlier history truly keeps =
    let started : was_started earlier ≡ true = not-false (was_started earlier) (started_before (situation earlier) (event.Ask r d counter) history.2) in
    let anchor : Anchor earlier counter r =
    anchored earlier counter r started truly keeps
    (before_all earlier r history.0 (reference_goes_on (situation earlier) (event.Ask r d counter) history.2)) in
    near_is_contained (report_of rates (estimate_now earlier) counter) r
    (report_is_near rates (estimate_now earlier) anchor.origin r counter anchor.near anchor.later anchor.keeps)

pub reports_contain : ReportsContain
reports_contain (event.Ask r d counter) earlier history truly drifts =
    asked r d counter earlier history truly (and_parts (drift_holds earlier) (list_all (keeps_with counter r) earlier) drifts).1
reports_contain e earlier history truly drifts = refl

-- of a report that is known
pub report_contains : (e : Event) (earlier : List Event) (report : Report) → IsHistory (e ∷ earlier) → report_by earlier e ≡ Some report
    → IsTrue (start_holds (e ∷ earlier)) → IsTrue (drift_holds (e ∷ earlier))
    → IsTrue (contains report (reference_of e))
report_contains e earlier report history same truly drifts =
    subst (λ (r : Option Report). IsTrue (map_or r true (λ x. contains x (reference_of e)))) same (reports_contain e earlier history truly drifts)

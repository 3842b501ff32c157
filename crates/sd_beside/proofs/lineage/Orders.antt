-- Commit wait keeps the order of two transactions where the lineages of two reports are honest: references do not fall.
use Rattle.std.specs.Prelude.{◌≡◌, ℕ, ◌+◌, ◌≤◌, ◌<◌, true, List, [], ◌∷◌, ◌++◌, nat_eq, nat_le, nat_lt, Option, Some, None, option_map, length}
use Rattle.std.proofs.Common.{arith, sym, ap}
use Rattle.std.proofs.lemmas.Bool.{and_parts, leb-true, ltb-true}
use Rattle.sd_num.specs.declared.clock.Report.{Report}
use Rattle.sd_num.specs.clock.Estimates.{contains}
use Rattle.sd_device.specs.msg.Observed.{ReportAt}
use Rattle.sd_sched.specs.declared.Event.{Event}
use Rattle.sd_sched.specs.Events.{reference_of}
use Rattle.sd_history.specs.World.{Setting, latest_reference}
use Rattle.sd_history.specs.Steps.{seen_of}
use Rattle.sd_history.specs.Chronicle.{next_step, chronicle}
use Rattle.sd_history.specs.Admitted.{IsAdmitted}
use Rattle.sd_history.specs.Lines.{asked_report}
use Rattle.sd_history.proofs.Contained.{admitted_time_goes_on}
use Rattle.sd_history.proofs.Given.{some_is}
use Rattle.sd_replay.specs.wait.Waits.{stamp_of}
use Rattle.sd_beside.specs.lineage.Laws.{LineageOrders}
use Rattle.sd_beside.proofs.lineage.Contains.{lineage_contains}

-- the part up to an event is admitted too
part_is : (setting : Setting) (between : List Event) (e : Event) (before : List Event) → IsAdmitted setting (between ++ e ∷ before)
    → IsAdmitted setting (e ∷ before)
part_is setting [] e before is = is
part_is setting (g ∷ between) e before is = part_is setting between e before is.0

-- and no later event is before it
not_before : (setting : Setting) (between : List Event) (e : Event) (before : List Event) → IsAdmitted setting (between ++ e ∷ before)
    → reference_of e ≤ latest_reference (seen_of (chronicle setting (between ++ e ∷ before)))
not_before setting [] e before is = omega arith
not_before setting (g ∷ between) e before is =
    let on : reference_of e ≤ latest_reference (seen_of (chronicle setting (between ++ e ∷ before))) = not_before setting between e before is.0 in
    let goes : latest_reference (seen_of (chronicle setting (between ++ e ∷ before))) ≤ reference_of g =
    admitted_time_goes_on setting (chronicle setting (between ++ e ∷ before)) g is.1 in
    omega (arith, on, goes)

-- a report is of the reference of its event
reported_at : (line reference : ℕ) (o : Option (ℕ × Report)) (x : ReportAt)
    → option_map (λ (told : ℕ × Report). record { line = line; device = told.0; reference = reference; report = told.1 }) o ≡ Some x → x.reference ≡ reference
reported_at line reference None x same = cc
reported_at line reference (Some told) x same = sym (ap (λ (y : ReportAt). y.reference) (some_is same))

-- what an interval with the reference in it says, by numbers
sides_of : (x : ReportAt) → contains x.report x.reference ≡ true
    → (x.report.clock ≤ x.reference + x.report.eps) × (x.reference ≤ x.report.clock + x.report.eps)
sides_of x holds =
    let both : (nat_le x.report.clock (x.reference + x.report.eps) ≡ true) × (nat_le x.reference (x.report.clock + x.report.eps) ≡ true) =
    and_parts (nat_le x.report.clock (x.reference + x.report.eps)) (nat_le x.reference (x.report.clock + x.report.eps)) holds in
    (leb-true x.report.clock (x.reference + x.report.eps) both.0, leb-true x.reference (x.report.clock + x.report.eps) both.1)

greater : (stamp stamp' eps clock r r' p q : ℕ) → stamp + eps < clock → clock ≤ r + eps → r ≡ p → p ≤ q → r' ≡ q → r' ≤ stamp' → stamp < stamp'
greater stamp stamp' eps clock r r' p q one two three four five six = omega (arith, one, two, three, four, five, six)

pub lineage_orders : (setting : Setting) → LineageOrders setting
lineage_orders setting begun ended next of_ended of_next e f before between is ended_so ended_honest next_so next_honest after =
    let part : IsAdmitted setting (e ∷ before) = part_is setting between e before is.0 in
    let lower = sides_of ended (lineage_contains setting (e ∷ before) ended of_ended part ended_so ended_honest) in
    let upper = sides_of next (lineage_contains setting (f ∷ between ++ e ∷ before) next of_next is next_so next_honest) in
    let on : reference_of e ≤ latest_reference (seen_of (chronicle setting (between ++ e ∷ before))) = not_before setting between e before is.0 in
    let goes : latest_reference (seen_of (chronicle setting (between ++ e ∷ before))) ≤ reference_of f =
    admitted_time_goes_on setting (chronicle setting (between ++ e ∷ before)) f is.1 in
    let past : nat_lt (stamp_of begun + ended.report.eps) ended.report.clock ≡ true =
    (and_parts (nat_eq begun.device ended.device) (nat_lt (stamp_of begun + ended.report.eps) ended.report.clock) after).1 in
    greater (stamp_of begun) (stamp_of next) ended.report.eps ended.report.clock ended.reference next.reference (reference_of e) (reference_of f)
    (ltb-true (stamp_of begun + ended.report.eps) ended.report.clock past) lower.0
    (reported_at (length (chronicle setting before) + 1) (reference_of e) (asked_report (next_step setting (chronicle setting before) e)) ended ended_so.report)
    (upto (reference_of e) _ (reference_of f) on goes)
    (reported_at (length (chronicle setting (between ++ e ∷ before)) + 1) (reference_of f)
    (asked_report (next_step setting (chronicle setting (between ++ e ∷ before)) f)) next next_so.report)
    upper.1
  where
    upto : (a b c : ℕ) → a ≤ b → b ≤ c → a ≤ c
    upto a b c one two = omega (arith, one, two)

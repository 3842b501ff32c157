-- A report whose lineage is honest contains its reference, and each report has a lineage.
use Rattle.std.specs.Prelude.{◌≡◌, ℕ, ◌+◌, ◌≤◌, true, List, [], ◌∷◌, length, Option, Some, None, is_some, option_map, refl}
use Rattle.std.proofs.Common.{sym, ◌∙◌, ap, subst}
use Rattle.sd_num.specs.declared.clock.Report.{Report}
use Rattle.sd_num.specs.clock.Estimates.{contains}
use Rattle.sd_num.proofs.clock.Containment.{near_is_contained}
use Rattle.sd_device.specs.msg.Observed.{ReportAt}
use Rattle.sd_device.specs.Calls.{Past}
use Rattle.sd_device.specs.Words.{report_at}
use Rattle.sd_sched.specs.declared.Event.{Event}
use Rattle.sd_sched.specs.declared.Event.TheVariants as event
use Rattle.sd_history.specs.World.{Setting, latest_reference}
use Rattle.sd_history.specs.Steps.{Step, seen_of}
use Rattle.sd_history.specs.Chronicle.{past_in, chronicle}
use Rattle.sd_history.specs.Admitted.{IsAdmitted}
use Rattle.sd_history.proofs.Contained.{admitted_time_goes_on}
use Rattle.sd_history.proofs.Given.{some_is}
use Rattle.sd_beside.specs.lineage.Lineage.{Lineage, is_honest_lineage, held_to, lineages, report_lineage, latest_report}
use Rattle.sd_beside.specs.lineage.Laws.{HasLineage, LineageContains}
use Rattle.sd_beside.proofs.lineage.Tracing.{AreTraced, held_near, traced}

-- the report of a device with this past
abbrev reported : (line reference d counter : ℕ) → Option Past → Option ReportAt
reported line reference d counter p =
    option_map (λ (told : ℕ × Report). record { line = line; device = told.0; reference = reference; report = told.1 })
    (option_map (λ report. (d, report)) (option_map (λ past. report_at past counter) p))

module _ (setting : Setting) (steps : List Step) (inv : AreTraced setting steps) (line r d c : ℕ) (le : latest_reference (seen_of steps) ≤ r) (x : ReportAt) where
  asked_contains : (p : Option Past) → past_in steps d ≡ p → reported line r d c p ≡ Some x → (lineage : Lineage)
      → option_map (held_to d (r, c)) ((lineages steps).of_device d) ≡ Some lineage → is_honest_lineage setting lineage ≡ true
      → contains x.report x.reference ≡ true
  asked_contains None here same lineage is honest = cc
  asked_contains (Some past) here same lineage is honest =
      let descends = inv.device d past here in
      let lineage_is : held_to d (r, c) descends.descent ≡ lineage =
      some_is (sym (ap (option_map (held_to d (r, c))) descends.there) ∙ is) in
      subst (λ (y : ReportAt). contains y.report y.reference ≡ true) (some_is same)
      (near_is_contained (report_at past c) r
      (held_near setting (latest_reference (seen_of steps)) ((lineages steps).of_device d) d past r c (inv.own d past here) descends le
      (subst (λ l. is_honest_lineage setting l ≡ true) (sym lineage_is) honest)))

  asked_has : (p : Option Past) → past_in steps d ≡ p → reported line r d c p ≡ Some x
      → is_some (option_map (held_to d (r, c)) ((lineages steps).of_device d)) ≡ true
  asked_has None here same = cc
  asked_has (Some past) here same = ap (λ o. is_some (option_map (held_to d (r, c)) o)) (inv.device d past here).there

by_event : (setting : Setting) (earlier : List Event) (e : Event) (x : ReportAt) (lineage : Lineage) → IsAdmitted setting (e ∷ earlier)
    → latest_report (chronicle setting (e ∷ earlier)) ≡ Some x → report_lineage (chronicle setting (e ∷ earlier)) ≡ Some lineage
    → is_honest_lineage setting lineage ≡ true → contains x.report x.reference ≡ true
by_event setting earlier (event.Ask r d c) x lineage is same lineage_is honest =
    asked_contains setting (chronicle setting earlier) (traced setting earlier is.0) (length (chronicle setting earlier) + 1) r d c
    (admitted_time_goes_on setting (chronicle setting earlier) (event.Ask r d c) is.1) x (past_in (chronicle setting earlier) d) refl same lineage lineage_is
    honest
by_event setting earlier _ x lineage is same lineage_is honest = cc

pub lineage_contains : (setting : Setting) → LineageContains setting
lineage_contains setting [] x lineage is reported honest = let none : None ≡ Some x = reported.report in cc
lineage_contains setting (e ∷ earlier) x lineage is reported honest = by_event setting earlier e x lineage is reported.report reported.lineage_is honest

has_by_event : (setting : Setting) (earlier : List Event) (e : Event) (x : ReportAt) → IsAdmitted setting (e ∷ earlier)
    → latest_report (chronicle setting (e ∷ earlier)) ≡ Some x → is_some (report_lineage (chronicle setting (e ∷ earlier))) ≡ true
has_by_event setting earlier (event.Ask r d c) x is same =
    asked_has setting (chronicle setting earlier) (traced setting earlier is.0) (length (chronicle setting earlier) + 1) r d c
    (admitted_time_goes_on setting (chronicle setting earlier) (event.Ask r d c) is.1) x (past_in (chronicle setting earlier) d) refl same
has_by_event setting earlier _ x is same = cc

pub has_lineage : (setting : Setting) → HasLineage setting
has_lineage setting [] x is same = cc
has_lineage setting (e ∷ earlier) x is same = has_by_event setting earlier e x is same

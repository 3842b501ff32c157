-- That a device alone goes on as the work of `solo` says.
use Rattle.std.proofs.Common.{◌≡◌, ℕ, ◌+◌, List, [], ◌∷◌, Option, Some, None, Ok, sym, ap, ◌∙◌, subst, length, add-one, refl}
use Rattle.sd_num.specs.declared.clock.Report.{Report}
use Rattle.sd_num.specs.Lists.{map_or}
use Rattle.sd_sched.specs.declared.Event.{Event}
use Rattle.sd_commands.specs.solo.Histories.{bytes_of, refusal, report_by, report_text}
use Rattle.sd_commands.specs.solo.Lines.{solo_event}
use Rattle.sd_commands.specs.solo.Registers.{StandsFor}
use Rattle.sd_commands.specs.declared.solo.Solo.{Solo}
use Rattle.sd_commands.specs.declared.solo.SoloFault.{SoloFault}
use Rattle.sd_commands.proofs.solo.Standing.{latest_accepted}
use Rattle.std.specs.Prelude.{IsTrue, codes, decimal}
use Rattle.sd_files.specs.work.Leaving.{are_lines}
use Rattle.sd_files.specs.work.Works.{Work}
use Rattle.sd_files.specs.work.WholeLines.{WritesWhole}
use Rattle.sd_files.proofs.work.Whole.{text_whole}
use Rattle.sd_top.specs.Schedules.{accepted, solo_work, unless_refused}

-- a line was taken that gave an event, which was printed
abbrev Goes : (xs : List Event) (line printed : List ℕ) (next : Solo) → Work Event → Type 0
Goes xs line printed next work = (x : Event) × (work.says xs line ≡ Ok x) × (printed ≡ work.bytes xs x) × ((work ≡ solo_work) × StandsFor next (x ∷ xs))

goes_on_as_solo : (work : Work Event) (xs : List Event) (e : Event) (line printed : List ℕ) (next : Solo) → work ≡ solo_work → Ok e ≡ solo_event line
    → StandsFor next (e ∷ xs) → printed ≡ bytes_of xs e → Goes xs line printed next work
goes_on_as_solo work xs e line printed next is event stands prints =
    let taken : refusal xs e ≡ None = latest_accepted next e xs stands in
    subst (Goes xs line printed next) (sym is) (
      e,
      ap (accepted xs) (sym event)
          ∙ ap (λ (why : Option SoloFault). unless_refused why e) taken,
      prints,
      (refl, stands),
    )

-- with a report
pub goes_reporting : (work : Work Event) (xs : List Event) (e : Event) (line printed : List ℕ) (next : Solo) (report : Report) (n : ℕ) → work ≡ solo_work
    → Ok e ≡ solo_event line → StandsFor next (e ∷ xs) → Some report ≡ report_by xs e
    → n ≡ length (e ∷ xs) → printed ≡ report_text n report → Goes xs line printed next work
goes_reporting work xs e line printed next report n is event stands told count prints =
    goes_on_as_solo work xs e line printed next is event stands
    (prints ∙ ap (λ (k : ℕ). report_text k report) (count ∙ sym (add-one (length xs)))
    ∙ ap (λ (r : Option Report). map_or r [] (report_text (length xs + 1))) told)

-- without one
pub goes_silently : (work : Work Event) (xs : List Event) (e : Event) (line printed : List ℕ) (next : Solo) → work ≡ solo_work → Ok e ≡ solo_event line
    → StandsFor next (e ∷ xs) → None ≡ report_by xs e → printed ≡ []
    → Goes xs line printed next work
goes_silently work xs e line printed next is event stands told prints =
    goes_on_as_solo work xs e line printed next is event stands (prints ∙ ap (λ (r : Option Report). map_or r [] (report_text (length xs + 1))) told)

-- the line of a report is a whole line
pub reports_whole : WritesWhole solo_work
reports_whole xs e = whole (length xs + 1) (report_by xs e)
  where
    whole : (n : ℕ) (report : Option Report) → IsTrue (are_lines (map_or report [] (report_text n)))
    whole n None = refl
    whole n (Some report) = text_whole (codes "report" ∷ decimal n ∷ codes "0" ∷ decimal report.clock ∷ decimal report.eps ∷ [])

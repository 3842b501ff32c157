-- A moved history has the moved lines and reports.
use Rattle.std.specs.Prelude.{◌≡◌, ℕ, ◌+◌, Bool, true, false, ◌&&◌, List, [], ◌∷◌, ◌++◌, length, map, find, filter, nat_le, Option, Some, None, option_map, option_to_list, refl, if◌then◌else◌}
use Rattle.std.specs.List.{list_any}
use Rattle.std.proofs.Common.{arith, sym, ◌∙◌, ap}
use Rattle.std.proofs.lemmas.Bool.Decides.{nat_tests}
use Rattle.std.proofs.lemmas.List.{map-append, length-map}
use Rattle.sd_num.specs.Lists.{map_or, same_number, follow}
use Rattle.sd_plan.specs.topo.Network.{device_numbers}
use Rattle.sd_num.specs.declared.clock.Report.{Report}
use Rattle.sd_num.specs.clock.Estimates.{contains}
use Rattle.sd_device.specs.msg.Observed.{ReportAt}
use Rattle.sd_sched.specs.declared.Event.{Event}
use Rattle.sd_sched.specs.declared.Event.TheVariants as event
use Rattle.sd_sched.specs.Events.{reference_of}
use Rattle.sd_history.specs.declared.BrokenSet.{BrokenSet}
use Rattle.sd_history.specs.World.{Setting, is_counted}
use Rattle.sd_history.specs.Steps.{seen_of}
use Rattle.sd_history.specs.Premises.{breaks}
use Rattle.sd_history.specs.Lines.{Premise, Start, Drift, Delay, Tick, Loss, Domain, Renew, Line, Broken, RootsAlarm, Reported, IntervalAlarm, counted_parent, first_on_loop, roots, asked_report, broken_lines, loop_lines, root_lines, report_lines, lines_of, reports}
use Rattle.sd_beside.specs.translation.Moves.{moved_event, moved_report, moved_step, moved_line, moved_report_at}
use Rattle.sd_beside.proofs.translation.Words.{reference_moved}
use Rattle.sd_beside.proofs.translation.Views.{Marked, plain, moved, counted_same}
use Rattle.sd_beside.proofs.translation.Lives.{AreOfLives}
use Rattle.sd_beside.proofs.translation.Steps.{moved_steps_seen, plain_steps_seen, of_steps, parent_same, acts_same}
use Rattle.sd_beside.proofs.translation.Judged.{breaks_same}

-- The lines that name no clock and no reference stay.
module _ (time : ℕ) where
  broken_line_same : (premise : Premise) (b : Bool) → map (moved_line time) (if b then Broken premise ∷ [] else []) ≡ (if b then Broken premise ∷ [] else [])
  broken_line_same premise true = refl
  broken_line_same premise false = refl

  seven : (a b c d e f g : List Line) → map (moved_line time) (a ++ b ++ c ++ d ++ e ++ f ++ g)
      ≡ map (moved_line time) a ++ map (moved_line time) b ++ map (moved_line time) c ++ map (moved_line time) d ++ map (moved_line time) e ++ map (moved_line time) f
      ++ map (moved_line time) g
  seven a b c d e f g = simp map-append

  four : (a b c d : List Line) → map (moved_line time) (a ++ b ++ c ++ d)
      ≡ map (moved_line time) a ++ map (moved_line time) b ++ map (moved_line time) c ++ map (moved_line time) d
  four a b c d = simp map-append

  broken_lines_same : (b : BrokenSet) → map (moved_line time) (broken_lines b) ≡ broken_lines b
  broken_lines_same b =
      seven (if b.start then Broken Start ∷ [] else []) (if b.drift then Broken Drift ∷ [] else []) (if b.delay then Broken Delay ∷ [] else [])
      (if b.tick then Broken Tick ∷ [] else []) (if b.loss then Broken Loss ∷ [] else []) (if b.domain then Broken Domain ∷ [] else [])
      (if b.renew then Broken Renew ∷ [] else [])
      ∙ (λ i. broken_line_same Start b.start i ++ broken_line_same Drift b.drift i ++ broken_line_same Delay b.delay i ++ broken_line_same Tick b.tick i
      ++ broken_line_same Loss b.loss i ++ broken_line_same Domain b.domain i ++ broken_line_same Renew b.renew i)

  loop_lines_same : (before now : Option ℕ) → map (moved_line time) (loop_lines before now) ≡ loop_lines before now
  loop_lines_same None (Some d) = refl
  loop_lines_same None None = refl
  loop_lines_same (Some e) now = refl

  root_lines_same : (before now : List ℕ) → map (moved_line time) (root_lines before now) ≡ root_lines before now
  root_lines_same before [] = refl
  root_lines_same before (d ∷ []) = refl
  root_lines_same before (d ∷ e ∷ others) = go (nat_le 2 (length before))
    where
      go : (b : Bool) → map (moved_line time) (if b then [] else RootsAlarm d e ∷ []) ≡ (if b then [] else RootsAlarm d e ∷ [])
      go true = refl
      go false = refl

  -- a report contains its reference where the other does
  contains_same : (report : Report) (reference : ℕ) → contains (moved_report time report) (reference + time) ≡ contains report reference
  contains_same report reference = λ i. below report.clock reference report.eps i && below reference report.clock report.eps i
    where
      below : (a b eps : ℕ) → nat_le (a + time) (b + time + eps) ≡ nat_le a (b + eps)
      below a b eps = grind (arith, nat_tests)

  -- a device with its report
  abbrev moved_asked : ℕ × Report → ℕ × Report
  moved_asked told = (told.0, moved_report time told.1)

  report_lines_moved : (reference : ℕ) (told : ℕ × Report)
      → report_lines (reference + time) (moved_asked told) ≡ map (moved_line time) (report_lines reference told)
  report_lines_moved reference told =
      ap (λ b. Reported told.0 (moved_report time told.1) ∷ (if b then [] else IntervalAlarm told.0 (reference + time) ∷ [])) (contains_same told.1 reference)
      ∙ go (contains told.1 reference)
    where
      go : (b : Bool) → (Reported told.0 (moved_report time told.1) ∷ (if b then [] else IntervalAlarm told.0 (reference + time) ∷ []))
          ≡ map (moved_line time) (Reported told.0 told.1 ∷ (if b then [] else IntervalAlarm told.0 reference ∷ []))
      go true = refl
      go false = refl

asked_moved : (time : ℕ) (x : Marked) → asked_report (moved_step time x.by x.step) ≡ option_map (moved_asked time) (asked_report x.step)
asked_moved time x = go x.step.seen.event x.step.told.report
  where
    asked : (device : ℕ) (o : Option Report)
        → option_map (λ (report : Report). (device, report)) (option_map (moved_report time) o)
        ≡ option_map (moved_asked time) (option_map (λ (report : Report). (device, report)) o)
    asked device None = refl
    asked device (Some report) = refl

    go : (e : Event) (o : Option Report)
        → elim (moved_event time x.by e) as (λ (x : Event). Option (ℕ × Report)) [
          | event.Ask reference device counter ↦ option_map (λ (report : Report). (device, report)) (option_map (moved_report time) o)
          | _ ↦ None
        ] ≡ option_map (moved_asked time) (elim e as (λ (x : Event). Option (ℕ × Report)) [
          | event.Ask reference device counter ↦ option_map (λ (report : Report). (device, report)) o
          | _ ↦ None
        ])
    go (event.Ask reference device counter) o = asked device o
    go _ o = refl

module _ (time : ℕ) (setting : Setting) where
  -- the alarms

  counted_parent_same : (xs : List Marked) → counted_parent setting (moved time xs) ≡ counted_parent setting (plain xs)
  counted_parent_same xs =
      λ i. λ d. if of_steps time xs (is_counted setting) (counted_same time setting) i d then parent_same time xs i d else None

  loop_same : (xs : List Marked) → first_on_loop setting (moved time xs) ≡ first_on_loop setting (plain xs)
  loop_same xs =
      λ i. find (λ d. list_any (λ n. same_number (follow (counted_parent_same xs i) (n + 1) d) d) (device_numbers setting.net)) (device_numbers setting.net)

  roots_same : (xs : List Marked) → roots setting (moved time xs) ≡ roots setting (plain xs)
  roots_same xs =
      λ i. filter (λ d. of_steps time xs (is_counted setting) (counted_same time setting) i d && acts_same time xs i d) (device_numbers setting.net)

  broken_lines_are : (lives : ℕ → ℕ → ℕ) (xs : List Marked) → AreOfLives lives xs → breaks setting (seen_of (moved time xs)) ≡ breaks setting (seen_of (plain xs))
  broken_lines_are lives xs of_lives =
      ap (breaks setting) (moved_steps_seen time xs) ∙ breaks_same time lives setting xs of_lives ∙ ap (breaks setting) (sym (plain_steps_seen time xs))

  told_moved : (x : Marked)
      → map_or (asked_report (moved_step time x.by x.step)) [] (report_lines (reference_of (moved_event time x.by x.step.seen.event)))
      ≡ map (moved_line time) (map_or (asked_report x.step) [] (report_lines (reference_of x.step.seen.event)))
  told_moved x =
      (λ i. map_or (asked_moved time x i) [] (report_lines (reference_moved time x.by x.step.seen.event i))) ∙ go (asked_report x.step)
    where
      go : (o : Option (ℕ × Report))
          → map_or (option_map (moved_asked time) o) [] (report_lines (reference_of x.step.seen.event + time))
          ≡ map (moved_line time) (map_or o [] (report_lines (reference_of x.step.seen.event)))
      go None = refl
      go (Some told) = report_lines_moved time (reference_of x.step.seen.event) told

  -- the lines of the latest event
  pub lines_moved : (lives : ℕ → ℕ → ℕ) (xs : List Marked) → AreOfLives lives xs
      → lines_of setting (moved time xs) ≡ map (moved_line time) (lines_of setting (plain xs))
  lines_moved lives [] of_lives = refl
  lines_moved lives (x ∷ earlier) of_lives =
      (λ i. broken_lines (broken_lines_are lives (x ∷ earlier) of_lives i)
      ++ loop_lines (loop_same earlier i) (loop_same (x ∷ earlier) i)
      ++ root_lines (roots_same earlier i) (roots_same (x ∷ earlier) i)
      ++ told_moved x i)
      ∙ (λ i. sym (broken_lines_same time (breaks setting (seen_of (plain (x ∷ earlier))))) i
      ++ sym (loop_lines_same time (first_on_loop setting (plain earlier)) (first_on_loop setting (plain (x ∷ earlier)))) i
      ++ sym (root_lines_same time (roots setting (plain earlier)) (roots setting (plain (x ∷ earlier)))) i
      ++ map (moved_line time) (map_or (asked_report x.step) [] (report_lines (reference_of x.step.seen.event))))
      ∙ sym (four time (broken_lines (breaks setting (seen_of (plain (x ∷ earlier)))))
      (loop_lines (first_on_loop setting (plain earlier)) (first_on_loop setting (plain (x ∷ earlier))))
      (root_lines (roots setting (plain earlier)) (roots setting (plain (x ∷ earlier))))
      (map_or (asked_report x.step) [] (report_lines (reference_of x.step.seen.event))))

-- a report as it is seen at a line and a reference
abbrev seen_at : (line reference : ℕ) → ℕ × Report → ReportAt
seen_at line reference told = record { line = line; device = told.0; reference = reference; report = told.1 }

-- the reports of a history
pub reports_moved : (time : ℕ) (xs : List Marked) → reports (moved time xs) ≡ map (moved_report_at time) (reports (plain xs))
reports_moved time [] = refl
reports_moved time (x ∷ earlier) =
    (λ i. reports_moved time earlier i ++ option_to_list (option_map
    (seen_at (lengths i + 1) (reference_moved time x.by x.step.seen.event i)) (asked_moved time x i)))
    ∙ ap (λ latest. map (moved_report_at time) (reports (plain earlier)) ++ latest) (go (asked_report x.step))
    ∙ sym (map-append (moved_report_at time) (reports (plain earlier))
    (option_to_list (option_map (seen_at (length (plain earlier) + 1) (reference_of x.step.seen.event)) (asked_report x.step))))
  where
    lengths : length (moved time earlier) ≡ length (plain earlier)
    lengths = length-map earlier (λ y. moved_step time y.by y.step) ∙ sym (length-map earlier (λ y. y.step))

    go : (o : Option (ℕ × Report))
        → option_to_list (option_map (seen_at (length (plain earlier) + 1) (reference_of x.step.seen.event + time)) (option_map (moved_asked time) o))
        ≡ map (moved_report_at time) (option_to_list (option_map (seen_at (length (plain earlier) + 1) (reference_of x.step.seen.event)) o))
    go None = refl
    go (Some told) = refl

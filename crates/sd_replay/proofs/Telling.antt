-- What the event output tells after one event more.
use Rattle.std.specs.Prelude.{◌≡◌, ℕ, suc, ◌+◌, ◌*◌, ◌^◌, ◌≤◌, max, Bool, true, false, ◌||◌, List, [], ◌∷◌, ◌++◌, length, map, count_by, flat_map, Option, Some, None, is_some, option_map, option_to_list, refl, if◌then◌else◌}
use Rattle.std.proofs.Common.{sym, ap, ◌∙◌, arith, add-one}
use Rattle.std.proofs.lemmas.List.{length-append, append-nil, map_push}
use Rattle.std.proofs.lemmas.List.Sums.{count_by-le-length}
use Rattle.sd_num.specs.Lists.{map_or, greatest}
use Rattle.sd_replay.specs.lines.Printed.{printed}
use Rattle.sd_plan.specs.topo.Network.{Network}
use Rattle.sd_plan.specs.topo.Topologies.{network}
use Rattle.sd_num.specs.declared.clock.Report.{Report}
use Rattle.sd_num.specs.clock.Estimates.{contains}
use Rattle.sd_device.specs.msg.Observed.{ReportAt}
use Rattle.sd_device.specs.msg.Observing.{report_at}
use Rattle.sd_sched.specs.Events.{reference_of, is_end_event}
use Rattle.sd_history.specs.declared.BrokenSet.{BrokenSet}
use Rattle.sd_history.specs.World.{Setting}
use Rattle.sd_history.specs.Steps.{Step, seen_of}
use Rattle.sd_history.specs.Refusals.{after_end}
use Rattle.sd_history.specs.Accepted.{AreSteps}
use Rattle.sd_history.specs.Premises.{breaks}
use Rattle.sd_history.specs.Lines.{Line, Broken, RootsAlarm, Reported, IntervalAlarm, broken_lines, loop_lines, root_lines, report_lines, asked_report, first_on_loop, roots, lines_of, reports}
use Rattle.sd_history.specs.Lines as line
use Rattle.sd_history.specs.Text.{bytes_of}
use Rattle.sd_history.proofs.Clear.{accepted_is_clear}
use Rattle.sd_history.proofs.flights.Counts.{steps_few}
use Rattle.sd_replay.specs.declared.lines.findings.Findings.{Findings}
use Rattle.sd_replay.specs.lines.Findings.{found_lines, found_bytes, line_bytes}
use Rattle.sd_replay.specs.declared.Tally.{Tally}
use Rattle.sd_replay.specs.declared.event_output.EventOutput.{EventOutput}
use Rattle.sd_replay.specs.Tallies.{is_broken, is_alarm, lines_that, greatest_eps, tally_of}
use Rattle.sd_replay.specs.Counting.{HasRoom, tally_with}
use Rattle.sd_replay.specs.Standing.{HasPrinted}

-- An event has eleven lines at most

one_most : {A : Type 0} (b : Bool) (x : A) → length (if b then x ∷ [] else []) ≤ 1
one_most true x = omega arith
one_most false x = omega arith

both_most : {A : Type 0} (xs ys : List A) (m n : ℕ) → length xs ≤ m → length ys ≤ n → length (xs ++ ys) ≤ m + n
both_most xs ys m n one two = let all = length-append xs ys in omega (arith, all, one, two)

broken_few : (b : BrokenSet) → length (broken_lines b) ≤ 7
broken_few b =
    both_most _ _ 6 1
    (both_most _ _ 5 1
    (both_most _ _ 4 1
    (both_most _ _ 3 1
    (both_most _ _ 2 1 (both_most _ _ 1 1 (one_most b.start (Broken line.Start)) (one_most b.drift (Broken line.Drift))) (one_most b.delay (Broken line.Delay)))
    (one_most b.tick (Broken line.Tick))) (one_most b.loss (Broken line.Loss))) (one_most b.domain (Broken line.Domain))) (one_most b.renew (Broken line.Renew))

loop_few : (before now : Option ℕ) → length (loop_lines before now) ≤ 1
loop_few None None = omega arith
loop_few None (Some d) = omega arith
loop_few (Some e) now = omega arith

roots_few : (before now : List ℕ) → length (root_lines before now) ≤ 1
roots_few before [] = omega arith
roots_few before (d ∷ []) = omega arith
roots_few before (d ∷ e ∷ others) = by _
  where
    by : (b : Bool) → length (if b then [] else RootsAlarm d e ∷ []) ≤ 1
    by true = omega arith
    by false = omega arith

report_few : (reference : ℕ) (o : Option (ℕ × Report)) → length (map_or o [] (report_lines reference)) ≤ 2
report_few reference None = omega arith
report_few reference (Some told) = by (contains told.1 reference)
  where
    by : (b : Bool) → length (Reported told.0 told.1 ∷ (if b then [] else IntervalAlarm told.0 reference ∷ [])) ≤ 2
    by true = omega arith
    by false = omega arith

lines_few : (setting : Setting) (steps : List Step) → length (lines_of setting steps) ≤ 11
lines_few setting [] = omega arith
lines_few setting (s ∷ earlier) =
    both_most _ _ 9 2
    (both_most _ _ 8 1
    (both_most _ _ 7 1 (broken_few (breaks setting (seen_of (s ∷ earlier)))) (loop_few (first_on_loop setting earlier) (first_on_loop setting (s ∷ earlier))))
    (roots_few (roots setting earlier) (roots setting (s ∷ earlier))))
    (report_few (reference_of s.seen.event) (asked_report s))

counts_few : (test : Line → Bool) (setting : Setting) (steps : List Step) → lines_that test setting steps ≤ 11 * length steps
counts_few test setting [] = omega arith
counts_few test setting (s ∷ earlier) =
    let before = counts_few test setting earlier in
    let here = count_by-le-length test (lines_of setting (s ∷ earlier)) in
    let few = lines_few setting (s ∷ earlier) in
    omega (arith, before, here, few)

reports_few : (steps : List Step) → length (reports steps) ≤ length steps
reports_few [] = omega arith
reports_few (s ∷ earlier) = both_next (asked_report s) (reports_few earlier)
  where
    both_next : (o : Option (ℕ × Report)) → length (reports earlier) ≤ length earlier
        → length (reports earlier
        ++ option_to_list
        (option_map (λ told. record { line = length earlier + 1; device = told.0; reference = reference_of s.seen.event; report = told.1 }) o)) ≤ suc
        (length earlier)
    both_next None before = let all = length-append (reports earlier) [] in omega (arith, all, before)
    both_next (Some told) before =
        let all = length-append (reports earlier)
        (record { line = length earlier + 1; device = told.0; reference = reference_of s.seen.event; report = told.1 } ∷ []) in omega (arith, all, before)

-- so a tally has room for one event more
pub tally_room : (setting : Setting) (steps : List Step) → AreSteps setting steps → HasRoom (tally_of setting steps)
tally_room setting steps is =
    let few : length steps ≤ 2 ^ 26 = steps_few setting steps is in
    let told = reports_few steps in
    let broken = counts_few is_broken setting steps in
    let alarms = counts_few is_alarm setting steps in
    record { events = omega (arith, few); reports = omega (arith, few, told); broken = omega (arith, few, broken); alarms = omega (arith, few, alarms) }

-- One event more

abbrev pub of_counts : ℕ → ℕ → ℕ → ℕ → ℕ → Tally
of_counts events reports_ broken alarms eps = record { events = events; reports = reports_; broken = broken; alarms = alarms; greatest_eps = eps }

pub same_tally : (a b : Tally) → a.events ≡ b.events → a.reports ≡ b.reports → a.broken ≡ b.broken → a.alarms ≡ b.alarms → a.greatest_eps ≡ b.greatest_eps
    → a ≡ b
same_tally a b events reports_ broken alarms eps =
    ap (λ n. of_counts n a.reports a.broken a.alarms a.greatest_eps) events
    ∙ ap (λ n. of_counts b.events n a.broken a.alarms a.greatest_eps) reports_
    ∙ ap (λ n. of_counts b.events b.reports n a.alarms a.greatest_eps) broken
    ∙ ap (λ n. of_counts b.events b.reports b.broken n a.greatest_eps) alarms
    ∙ ap (λ n. of_counts b.events b.reports b.broken b.alarms n) eps

greatest-append : (xs ys : List ℕ) → greatest (xs ++ ys) ≡ max (greatest xs) (greatest ys)
greatest-append [] ys = omega arith
greatest-append (x ∷ xs) ys = let rest = greatest-append xs ys in omega (arith, rest)

abbrev told_at : Step → ℕ → ℕ × Report → ReportAt
told_at s n told = record { line = n; device = told.0; reference = reference_of s.seen.event; report = told.1 }

module _ (setting : Setting) (s : Step) (earlier : List Step) (is : AreSteps setting (s ∷ earlier)) (found : Findings)
    (lines : found_lines found ≡ lines_of setting (s ∷ earlier)) (report : found.report ≡ asked_report s) where
  tally_next : tally_with (tally_of setting earlier) found ≡ tally_of setting (s ∷ earlier)
  tally_next =
      same_tally (tally_with (tally_of setting earlier) found) (tally_of setting (s ∷ earlier)) (add-one (length earlier))
      (ap (λ o. length (reports earlier) + (if is_some o then 1 else 0)) report ∙ count (asked_report s))
      (ap (λ xs. lines_that is_broken setting earlier + count_by is_broken xs) lines)
      (ap (λ xs. lines_that is_alarm setting earlier + count_by is_alarm xs) lines)
      (ap (λ o. max (greatest_eps earlier) (map_or o 0 (λ told. told.1.eps))) report ∙ eps (asked_report s))
    where
      count : (o : Option (ℕ × Report))
          → length (reports earlier) + (if is_some o then 1 else 0) ≡ length (reports earlier ++ option_to_list (option_map (told_at s (length earlier + 1)) o))
      count None = let all = length-append (reports earlier) [] in omega (arith, all)
      count (Some told) = let all = length-append (reports earlier) (told_at s (length earlier + 1) told ∷ []) in omega (arith, all)

      eps : (o : Option (ℕ × Report))
          → max (greatest_eps earlier) (map_or o 0 (λ told. told.1.eps))
          ≡ greatest (map (λ x. x.report.eps) (reports earlier ++ option_to_list (option_map (told_at s (length earlier + 1)) o)))
      eps None = let same : max (greatest_eps earlier) 0 ≡ greatest_eps earlier = omega arith in
          same ∙ ap (λ xs. greatest (map (λ x. x.report.eps) xs)) (sym (append-nil (reports earlier)))
      eps (Some told) =
          let last = greatest-append (map (λ x. x.report.eps) (reports earlier)) (told.1.eps ∷ []) in
          let same : max (greatest_eps earlier) told.1.eps ≡ greatest (map (λ x. x.report.eps) (reports earlier) ++ told.1.eps ∷ []) = omega (arith, last) in
          same ∙ ap greatest (sym (map_push (λ x. x.report.eps) (reports earlier) (told_at s (length earlier + 1) told)))

  bytes_next : (net : Network) (n : ℕ) → net ≡ setting.net → n ≡ length earlier → found_bytes net (n + 1) found ≡ bytes_of setting (s ∷ earlier)
  bytes_next net n same events =
      ap (λ (m : Network). found_bytes m (n + 1) found) same
      ∙ ap (λ k. found_bytes setting.net k found) (ap (λ k. k + 1) events ∙ add-one (length earlier))
      ∙ ap (flat_map (line_bytes setting.net (length (s ∷ earlier)))) lines

  ended_next : is_end_event s.seen.event ≡ after_end (seen_of (s ∷ earlier))
  ended_next =
      sym (ap (λ b. is_end_event s.seen.event || b)
      (accepted_is_clear setting earlier s.seen.event is.1).before_end ∙ or_nothing (is_end_event s.seen.event))
    where
      or_nothing : (b : Bool) → (b || false) ≡ b
      or_nothing true = refl
      or_nothing false = refl

  -- the event output that was written tells of the event
  pub tells_next : (old new : EventOutput) → HasPrinted old setting earlier → new.topology ≡ old.topology → new.tally ≡ tally_with old.tally found
      → printed new.lines ≡ found_bytes (network old.topology) (old.tally.events + 1) found
      → new.ended ≡ is_end_event s.seen.event → HasPrinted new setting (s ∷ earlier)
  tells_next old new tells topology tally bytes ended =
      record {
        net = ap network topology ∙ tells.net;
        lines = bytes ∙ bytes_next (network old.topology) old.tally.events tells.net (ap (λ (t : Tally). t.events) tells.tally);
        tally = tally ∙ ap (λ (t : Tally). tally_with t found) tells.tally ∙ tally_next;
        ended = ended ∙ ended_next;
      }

-- Reports

-- where nobody is asked, the reports are as before
pub reports_same : (s : Step) (earlier : List Step) → asked_report s ≡ None → reports (s ∷ earlier) ≡ reports earlier
reports_same s earlier none = ap (λ o. reports earlier ++ option_to_list (option_map (told_at s (length earlier + 1)) o)) none ∙ append-nil (reports earlier)

-- and else there is one more
pub reports_more : (s : Step) (earlier : List Step) (d : ℕ) (report : Report) → asked_report s ≡ Some (d, report)
    → reports (s ∷ earlier) ≡ reports earlier ++ report_at (length earlier + 1) d (reference_of s.seen.event) report ∷ []
reports_more s earlier d report some = ap (λ o. reports earlier ++ option_to_list (option_map (told_at s (length earlier + 1)) o)) some

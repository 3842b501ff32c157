-- Which lines are due of one event: where no premise breaks, nothing is on a loop, one device acts and each report contains its reference,
-- there is no alarm.
use Rattle.std.specs.Prelude.{◌≡◌, ℕ, ◌+◌, ◌≤◌, Bool, true, false, cond, ◌&&◌, List, [], ◌∷◌, ◌++◌, length, count_by, nat_le, Option, Some, None, option_map, option_to_list, refl, if◌then◌else◌}
use Rattle.std.specs.List.{list_all}
use Rattle.std.proofs.Common.{arith, sym, ap, subst, ◌∙◌}
use Rattle.std.proofs.lemmas.Bool.{and_parts, and_from}
use Rattle.std.proofs.lemmas.List.Folds.{list_all-append}
use Rattle.sd_num.specs.Lists.{map_or}
use Rattle.sd_num.specs.declared.clock.Report.{Report}
use Rattle.sd_num.specs.clock.Estimates.{contains}
use Rattle.sd_device.specs.msg.Observed.{ReportAt}
use Rattle.sd_sched.specs.Events.{reference_of}
use Rattle.sd_history.specs.declared.BrokenSet.{BrokenSet}
use Rattle.sd_history.specs.World.{Setting}
use Rattle.sd_history.specs.Steps.{Step, seen_of}
use Rattle.sd_history.proofs.Parts.{premises_of}
use Rattle.sd_history.specs.Premises.{breaks, is_honest, all_hold, start_holds, drift_holds, delay_holds}
use Rattle.sd_history.specs.Lines.{Line, Premise, Broken, LoopAlarm, RootsAlarm, Reported, IntervalAlarm, broken_lines, loop_lines, root_lines, report_lines, asked_report, reports, roots, first_on_loop, lines_of}
use Rattle.sd_history.specs.Lines as premise
use Rattle.sd_history.proofs.Given.{some_is}
use Rattle.sd_replay.specs.Tallies.{is_alarm}
use Rattle.sd_replay.specs.Devices.{is_miss}
use Rattle.sd_replay.proofs.Counted.{count_append, line_if, split}

-- Lines of premises

none_if : (test : Line → Bool) (b : Bool) (p : Premise) → test (Broken p) ≡ false → count_by test (line_if b p) ≡ 0
none_if test true p is = ap (λ t. 0 + cond {A = ℕ} t 1 0) is
none_if test false p is = refl

-- none of them is of a kind that is of no premise
pub none_broken : (test : Line → Bool) → ((p : Premise) → test (Broken p) ≡ false) → (b : BrokenSet) → count_by test (broken_lines b) ≡ 0
none_broken test never b =
    let all = split b test in
    let s = none_if test b.start premise.Start (never premise.Start) in
    let d = none_if test b.drift premise.Drift (never premise.Drift) in
    let l = none_if test b.delay premise.Delay (never premise.Delay) in
    let t = none_if test b.tick premise.Tick (never premise.Tick) in
    let o = none_if test b.loss premise.Loss (never premise.Loss) in
    let f = none_if test b.domain premise.Domain (never premise.Domain) in
    let r = none_if test b.renew premise.Renew (never premise.Renew) in
    omega (arith, all, s, d, l, t, o, f, r)

-- The other lines of an event

-- none is of the kind but where there is a loop now
no_loop : (test : Line → Bool) (before now : Option ℕ) → ((d : ℕ) → now ≡ Some d → test (LoopAlarm d) ≡ false) → count_by test (loop_lines before now) ≡ 0
no_loop test None None never = refl
no_loop test None (Some d) never = ap (λ t. 0 + cond {A = ℕ} t 1 0) (never d refl)
no_loop test (Some e) now never = refl

-- nor but where there are two roots now
no_roots : (test : Line → Bool) (before now : List ℕ) → (2 ≤ length now → (d e : ℕ) → test (RootsAlarm d e) ≡ false) → count_by test (root_lines before now) ≡ 0
no_roots test before [] never = refl
no_roots test before (d ∷ []) never = refl
no_roots test before (d ∷ e ∷ others) never = by (nat_le 2 (length before))
  where
    by : (b : Bool) → count_by test (if b then [] else RootsAlarm d e ∷ []) ≡ 0
    by true = refl
    by false = ap (λ t. 0 + cond {A = ℕ} t 1 0) (never (omega arith) d e)

-- nor but where a report misses its reference
no_miss : (test : Line → Bool) (reference : ℕ) (o : Option (ℕ × Report)) → ((d : ℕ) (report : Report) → test (Reported d report) ≡ false)
    → ((told : ℕ × Report) → o ≡ Some told → contains told.1 reference ≡ true)
    → count_by test (map_or o [] (report_lines reference)) ≡ 0
no_miss test reference None never holds = refl
no_miss test reference (Some told) never holds = by (contains told.1 reference) (holds told refl)
  where
    by : (b : Bool) → b ≡ true → count_by test (Reported told.0 told.1 ∷ (if b then [] else IntervalAlarm told.0 reference ∷ [])) ≡ 0
    by true is = ap (λ t. 0 + cond {A = ℕ} t 1 0) (never told.0 told.1)
    by false is = cc

abbrev pub all_contain : List ReportAt → Bool
all_contain xs = list_all (λ r. contains r.report r.reference) xs

latest_contains : (n reference : ℕ) (o : Option (ℕ × Report))
    → all_contain (option_to_list (option_map (λ x. record { line = n; device = x.0; reference = reference; report = x.1 }) o)) ≡ true
    → (x : ℕ × Report) → o ≡ Some x → contains x.1 reference ≡ true
latest_contains n reference None all x same = cc
latest_contains n reference (Some y) all x same =
    subst (λ (z : ℕ × Report). contains z.1 reference ≡ true) (some_is same) (and_parts (contains y.1 reference) true all).0

module _ (setting : Setting) (s : Step) (earlier : List Step) where
  abbrev pub broken : List Line
  broken = broken_lines (breaks setting (seen_of (s ∷ earlier)))

  abbrev pub loop : List Line
  loop = loop_lines (first_on_loop setting earlier) (first_on_loop setting (s ∷ earlier))

  abbrev pub acting : List Line
  acting = root_lines (roots setting earlier) (roots setting (s ∷ earlier))

  abbrev pub told : List Line
  told = map_or (asked_report s) [] (report_lines (reference_of s.seen.event))

  -- the lines of an event by their parts
  pub four_parts : (test : Line → Bool)
      → count_by test (lines_of setting (s ∷ earlier)) ≡ count_by test broken + (count_by test loop + count_by test acting + count_by test told)
  four_parts test =
      let l = count_append test broken loop in
      let r = count_append test (broken ++ loop) acting in
      let t = count_append test (broken ++ loop ++ acting) told in
      omega (arith, l, r, t)

  abbrev here : List ReportAt
  here = option_to_list
      (option_map (λ x. record { line = length earlier + 1; device = x.0; reference = reference_of s.seen.event; report = x.1 }) (asked_report s))

  both_contain : all_contain (reports (s ∷ earlier)) ≡ true → (all_contain (reports earlier) ≡ true) × (all_contain here ≡ true)
  both_contain all =
      and_parts (all_contain (reports earlier)) (all_contain here)
      (sym (list_all-append (λ (r : ReportAt). contains r.report r.reference) (reports earlier) here) ∙ all)

  -- the earlier reports have their references where all reports do
  pub reports_before : all_contain (reports (s ∷ earlier)) ≡ true → all_contain (reports earlier) ≡ true
  reports_before all = (both_contain all).0

  -- and so does the latest
  told_contains : all_contain (reports (s ∷ earlier)) ≡ true → (x : ℕ × Report) → asked_report s ≡ Some x → contains x.1 (reference_of s.seen.event) ≡ true
  told_contains all = latest_contains (length earlier + 1) (reference_of s.seen.event) (asked_report s) (both_contain all).1

  -- no report misses its reference
  pub no_interval : all_contain (reports (s ∷ earlier)) ≡ true → count_by is_miss loop + count_by is_miss acting + count_by is_miss told ≡ 0
  no_interval contained =
      let l = no_loop is_miss (first_on_loop setting earlier) (first_on_loop setting (s ∷ earlier)) (λ d same. refl) in
      let r = no_roots is_miss (roots setting earlier) (roots setting (s ∷ earlier)) (λ two d e. refl) in
      let t = no_miss is_miss (reference_of s.seen.event) (asked_report s) (λ d report. refl) (told_contains contained) in
      omega (arith, l, r, t)

  -- there is no alarm where there is no loop, no second root, and no report that misses its reference
  pub no_alarm_due : first_on_loop setting (s ∷ earlier) ≡ None → length (roots setting (s ∷ earlier)) ≤ 1 → all_contain (reports (s ∷ earlier)) ≡ true
      → count_by is_alarm loop + count_by is_alarm acting + count_by is_alarm told ≡ 0
  no_alarm_due none one contained =
      let l = no_loop is_alarm (first_on_loop setting earlier) (first_on_loop setting (s ∷ earlier)) (λ d same. contradicts (sym none ∙ same)) in
      let r = no_roots is_alarm (roots setting earlier) (roots setting (s ∷ earlier)) (λ two d e. absurd (omega (arith, one, two))) in
      let t = no_miss is_alarm (reference_of s.seen.event) (asked_report s) (λ d report. refl) (told_contains contained) in
      omega (arith, l, r, t)
    where
      contradicts : {d : ℕ} → None ≡ Some d → is_alarm (LoopAlarm d) ≡ false
      contradicts same = cc

  -- where all premises hold, clocks, oscillators and links are honest
  pub all_honest : all_hold setting (s.seen ∷ seen_of earlier) ≡ true → is_honest setting (s.seen ∷ seen_of earlier) ≡ true
  all_honest hold =
      let all = premises_of setting (s.seen ∷ seen_of earlier) hold in
      and_from (start_holds (s.seen ∷ seen_of earlier) && drift_holds setting (s.seen ∷ seen_of earlier)) (delay_holds setting (s.seen ∷ seen_of earlier))
      (and_from (start_holds (s.seen ∷ seen_of earlier)) (drift_holds setting (s.seen ∷ seen_of earlier)) all.start all.drift) all.delay

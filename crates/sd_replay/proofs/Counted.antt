-- How many lines of a kind there are of what was found of an event.
use Rattle.std.specs.Prelude.{◌≡◌, ℕ, ◌+◌, Bool, true, false, List, [], ◌∷◌, ◌++◌, count_by, cond, Option, Some, None, is_some, not, refl, if◌then◌else◌}
use Rattle.std.proofs.Common.{arith}
use Rattle.std.proofs.lemmas.List.Sums.{sum_by-append}
use Rattle.sd_num.specs.Lists.{map_or}
use Rattle.sd_num.specs.declared.clock.Report.{Report}
use Rattle.sd_num.specs.clock.Estimates.{contains}
use Rattle.sd_history.specs.declared.BrokenSet.{BrokenSet}
use Rattle.sd_history.specs.Lines.{Line, Premise, Start, Drift, Delay, Tick, Loss, Domain, Renew, Broken, Reported, IntervalAlarm, broken_lines, report_lines}
use Rattle.sd_replay.specs.declared.lines.findings.Findings.{Findings}
use Rattle.sd_replay.specs.lines.Findings.{found_lines, loop_found, roots_found, misses_in}
use Rattle.sd_replay.specs.Tallies.{is_broken, is_alarm}
use Rattle.sd_replay.specs.Counting.{one}

pub count_append : (test : Line → Bool) (xs ys : List Line) → count_by test (xs ++ ys) ≡ count_by test xs + count_by test ys
count_append test xs ys = sum_by-append (λ x. cond (test x) 1 0) xs ys

-- Broken lines

abbrev pub line_if : Bool → Premise → List Line
line_if b premise = if b then Broken premise ∷ [] else []

breaks_once : (b : Bool) (premise : Premise) → count_by is_broken (line_if b premise) ≡ one b
breaks_once true premise = refl
breaks_once false premise = refl

raises_none : (b : Bool) (premise : Premise) → count_by is_alarm (line_if b premise) ≡ 0
raises_none true premise = refl
raises_none false premise = refl

module _ (b : BrokenSet) where
  abbrev two : List Line
  two = line_if b.start Start ++ line_if b.drift Drift

  abbrev three : List Line
  three = two ++ line_if b.delay Delay

  abbrev four : List Line
  four = three ++ line_if b.tick Tick

  abbrev five : List Line
  five = four ++ line_if b.loss Loss

  abbrev six : List Line
  six = five ++ line_if b.domain Domain

  pub split : (test : Line → Bool) → count_by test (broken_lines b)
      ≡ count_by test (line_if b.start Start) + count_by test (line_if b.drift Drift) + count_by test (line_if b.delay Delay) + count_by test
      (line_if b.tick Tick) + count_by test (line_if b.loss Loss) + count_by test (line_if b.domain Domain) + count_by test (line_if b.renew Renew)
  split test =
      let d = count_append test (line_if b.start Start) (line_if b.drift Drift) in
      let l = count_append test two (line_if b.delay Delay) in
      let t = count_append test three (line_if b.tick Tick) in
      let o = count_append test four (line_if b.loss Loss) in
      let f = count_append test five (line_if b.domain Domain) in
      let r = count_append test six (line_if b.renew Renew) in
      omega (arith, d, l, t, o, f, r)

  pub broken_counted : count_by is_broken (broken_lines b) ≡ one b.start + one b.drift + one b.delay + one b.tick + one b.loss + one b.domain + one b.renew
  broken_counted =
      let all = split is_broken in
      let s = breaks_once b.start Start in
      let d = breaks_once b.drift Drift in
      let l = breaks_once b.delay Delay in
      let t = breaks_once b.tick Tick in
      let o = breaks_once b.loss Loss in
      let f = breaks_once b.domain Domain in
      let r = breaks_once b.renew Renew in
      omega (arith, all, s, d, l, t, o, f, r)

  no_alarm : count_by is_alarm (broken_lines b) ≡ 0
  no_alarm =
      let all = split is_alarm in
      let s = raises_none b.start Start in
      let d = raises_none b.drift Drift in
      let l = raises_none b.delay Delay in
      let t = raises_none b.tick Tick in
      let o = raises_none b.loss Loss in
      let f = raises_none b.domain Domain in
      let r = raises_none b.renew Renew in
      omega (arith, all, s, d, l, t, o, f, r)

-- What was found

loop_counted : (o : Option ℕ) → (count_by is_alarm (loop_found o) ≡ one (is_some o)) × (count_by is_broken (loop_found o) ≡ 0)
loop_counted None = (refl, refl)
loop_counted (Some d) = (refl, refl)

roots_counted : (o : Option (ℕ × ℕ)) → (count_by is_alarm (roots_found o) ≡ one (is_some o)) × (count_by is_broken (roots_found o) ≡ 0)
roots_counted None = (refl, refl)
roots_counted (Some two) = (refl, refl)

report_counted : (reference : ℕ) (o : Option (ℕ × Report))
    → (count_by is_alarm (map_or o [] (report_lines reference)) ≡ one (map_or o false (λ told. not (contains told.1 reference))))
    × (count_by is_broken (map_or o [] (report_lines reference)) ≡ 0)
report_counted reference None = (refl, refl)
report_counted reference (Some told) = by (contains told.1 reference)
  where
    by : (b : Bool) → (count_by is_alarm (Reported told.0 told.1 ∷ (if b then [] else IntervalAlarm told.0 reference ∷ [])) ≡ one (not b))
        × (count_by is_broken (Reported told.0 told.1 ∷ (if b then [] else IntervalAlarm told.0 reference ∷ [])) ≡ 0)
    by true = (refl, refl)
    by false = (refl, refl)

module _ (found : Findings) where
  abbrev asked : List Line
  asked = map_or found.report [] (report_lines found.reference)

  parts : (test : Line → Bool)
      → count_by test (found_lines found) ≡ count_by test (broken_lines found.broken) + count_by test (loop_found found.looped) + count_by test
      (roots_found found.roots) + count_by test asked
  parts test =
      let l = count_append test (broken_lines found.broken) (loop_found found.looped) in
      let r = count_append test (broken_lines found.broken ++ loop_found found.looped) (roots_found found.roots) in
      let a = count_append test (broken_lines found.broken ++ loop_found found.looped ++ roots_found found.roots) asked in
      omega (arith, l, r, a)

  -- each broken line is of a premise
  pub broken_found : count_by is_broken (found_lines found) ≡ count_by is_broken (broken_lines found.broken)
  broken_found =
      let all = parts is_broken in
      let l = (loop_counted found.looped).1 in
      let r = (roots_counted found.roots).1 in
      let a = (report_counted found.reference found.report).1 in
      omega (arith, all, l, r, a)

  -- an alarm is a loop, two roots, or an interval
  pub alarms_counted : count_by is_alarm (found_lines found) ≡ one (is_some found.looped) + one (is_some found.roots) + one (misses_in found)
  alarms_counted =
      let all = parts is_alarm in
      let b = no_alarm found.broken in
      let l = (loop_counted found.looped).0 in
      let r = (roots_counted found.roots).0 in
      let a = (report_counted found.reference found.report).0 in
      omega (arith, all, b, l, r, a)

-- What the monitors see of an accepted step, and what they find, is what the history says.
use Rattle.std.specs.Prelude.{◌≡◌, ℕ, zero, suc, ◌+◌, ◌^◌, ◌<◌, ◌≤◌, true, List, [], ◌∷◌, ◌++◌, length, filter, All, Option, Some, None, is_some, IfSome, refl, option_map, if◌then◌else◌}
use Rattle.std.proofs.Common.{sym, ap, ◌∙◌, subst, arith}
use Rattle.std.proofs.lemmas.Option.{same_Some}
use Rattle.std.proofs.lemmas.List.Elements.{All-nil, All-push, All-filter, All-head, All-tail}
use Rattle.sd_num.specs.Lists.{below, map_or}
use Rattle.sd_plan.specs.topo.Limits.{IsNetwork}
use Rattle.sd_plan.proofs.Numbered.{found_passes}
use Rattle.sd_num.specs.declared.clock.Report.{Report}
use Rattle.sd_device.specs.declared.msg.Flight.{Flight}
use Rattle.sd_replay.specs.watch.Watch.{two_least}
use Rattle.sd_sched.specs.declared.Event.{Event}
use Rattle.sd_sched.specs.declared.Event.TheVariants as event
use Rattle.sd_sched.specs.Events.{reference_of, device_of, is_ask}
use Rattle.sd_history.specs.declared.BrokenSet.{BrokenSet}
use Rattle.sd_history.specs.World.{Setting}
use Rattle.sd_history.specs.Steps.{Step, seen_of, flight_count}
use Rattle.sd_history.specs.Accepted.{AreSteps}
use Rattle.sd_history.specs.Premises.{breaks}
use Rattle.sd_history.specs.Lines.{Line, broken_lines, loop_lines, root_lines, report_lines, asked_report, is_on_loop, first_on_loop, roots, lines_of}
use Rattle.sd_history.proofs.Known.{named_is_known}
use Rattle.sd_history.proofs.flights.Counts.{numbers_few}
use Rattle.sd_history.proofs.flights.Sending.{counted}
use Rattle.sd_fleet.specs.declared.Outcome.{Outcome}
use Rattle.sd_fleet.specs.Outcomes.{first_number, outcome_of}
use Rattle.sd_fleet.proofs.Shared.{sent_reach}
use Rattle.sd_replay.specs.declared.lines.findings.Findings.{Findings}
use Rattle.sd_replay.specs.lines.Findings.{IsOf, found_lines, loop_found, roots_found}
use Rattle.sd_replay.specs.Sights.{sight_by}
use Rattle.sd_replay.specs.Standing.{counted_acts, new_loop, new_roots}
use Rattle.sd_replay.proofs.ParentTable.{loop_lines_are, root_lines_are}
use Rattle.sd_replay.proofs.Flights.{first_is}

-- What is seen

-- it is told of the event, its outcome and its flights that reach
pub sight_is : (setting : Setting) (s : Step) (earlier : List Step) (e : Event) (outcome : Outcome) (sent : List Flight) → AreSteps setting (s ∷ earlier)
    → s.seen.event ≡ e → outcome ≡ outcome_of s → sent ≡ filter (λ f. f.reaches) s.sent → sight_by e outcome sent ≡ s.seen
sight_is setting s earlier e outcome sent is happens comes reach =
    ap (λ (o : Outcome). sight_by e o sent) comes
    ∙ ap (λ (x : Event). sight_by x (outcome_of s) sent) (sym happens)
    ∙ ap (λ (fs : List Flight). sight_by s.seen.event (outcome_of s) fs) (reach ∙ sym (sent_reach setting s earlier is))

-- What is found

abbrev lines_with : BrokenSet → List Line → List Line → Option (ℕ × Report) → ℕ → List Line
lines_with broken loop acting report reference = broken_lines broken ++ loop ++ acting ++ map_or report [] (report_lines reference)

-- the parts of what was found are those of the step
pub record AreFound (setting : Setting) (s : Step) (earlier : List Step) (found : Findings) : Type 0 where
  pub broken : found.broken ≡ breaks setting (seen_of (s ∷ earlier))
  pub looped : found.looped ≡ new_loop setting s earlier
  pub roots : found.roots ≡ new_roots setting s earlier
  pub report : found.report ≡ asked_report s
  pub reference : found.reference ≡ reference_of s.seen.event

module _ (setting : Setting) (s : Step) (earlier : List Step) (found : Findings) (are : AreFound setting s earlier found) where
  loop_is : loop_found found.looped ≡ loop_lines (first_on_loop setting earlier) (first_on_loop setting (s ∷ earlier))
  loop_is = ap loop_found are.looped ∙ loop_lines_are (first_on_loop setting earlier) (first_on_loop setting (s ∷ earlier))

  roots_is : roots_found found.roots ≡ root_lines (roots setting earlier) (roots setting (s ∷ earlier))
  roots_is = ap roots_found are.roots ∙ root_lines_are (roots setting earlier) (roots setting (s ∷ earlier))

  -- so its lines are
  pub lines_are : found_lines found ≡ lines_of setting (s ∷ earlier)
  lines_are =
      ap (λ b. lines_with b (loop_found found.looped) (roots_found found.roots) found.report found.reference) are.broken
      ∙ ap (λ xs. lines_with (breaks setting (seen_of (s ∷ earlier))) xs (roots_found found.roots) found.report found.reference) loop_is
      ∙ ap (λ xs. lines_with (breaks setting (seen_of (s ∷ earlier)))
      (loop_lines (first_on_loop setting earlier) (first_on_loop setting (s ∷ earlier))) xs found.report found.reference) roots_is
      ∙ ap (λ o. lines_with (breaks setting (seen_of (s ∷ earlier))) (loop_lines (first_on_loop setting earlier) (first_on_loop setting (s ∷ earlier)))
      (root_lines (roots setting earlier) (roots setting (s ∷ earlier))) o found.reference) are.report
      ∙ ap (λ n. lines_with (breaks setting (seen_of (s ∷ earlier))) (loop_lines (first_on_loop setting earlier) (first_on_loop setting (s ∷ earlier)))
      (root_lines (roots setting earlier) (roots setting (s ∷ earlier))) (asked_report s) n) are.reference

  -- Its devices

  below_bound : (n m : ℕ) → n ≤ m → All (λ x. x < m) (below n)
  below_bound zero m less = All-nil (λ x. x < m)
  below_bound (suc n) m less = All-push (λ x. x < m) (below n) n (below_bound n m (omega arith)) (omega arith)

  two_bound : (m : ℕ) (xs : List ℕ) → All (λ x. x < m) xs → (two : ℕ × ℕ) → two_least xs ≡ Some two → (two.0 < m) × (two.1 < m)
  two_bound m [] all two is = cc
  two_bound m (d ∷ []) all two is = cc
  two_bound m (d ∷ e ∷ xs) all two is =
      let same = same_Some (d, e) two is in
      subst (λ (t : ℕ × ℕ). (t.0 < m) × (t.1 < m)) same
      (All-head (λ x. x < m) d (e ∷ xs) all, All-head (λ x. x < m) e xs (All-tail (λ x. x < m) d (e ∷ xs) all))

  two_acting_bound : (two : ℕ × ℕ) → two_least (roots setting (s ∷ earlier)) ≡ Some two
      → (two.0 < length setting.net.devices) × (two.1 < length setting.net.devices)
  two_acting_bound =
      two_bound (length setting.net.devices) (roots setting (s ∷ earlier))
      (All-filter (counted_acts setting (s ∷ earlier)) (λ x. x < length setting.net.devices) (below (length setting.net.devices))
      (below_bound (length setting.net.devices) (length setting.net.devices) (omega arith)))

  report_named : (told : ℕ × Report) → asked_report s ≡ Some told → device_of s.seen.event ≡ Some told.0
  report_named told is = by s.seen.event is
    where
      on : (d : ℕ) (o : Option Report) → option_map (λ report. (d, report)) o ≡ Some told → Some d ≡ Some told.0
      on d None same = cc
      on d (Some report) same = ap (λ (t : ℕ × Report). Some t.0) (same_Some (d, report) told same)

      by : (e : Event) → elim e [ event.Ask reference device counter ↦ option_map (λ report. (device, report)) s.told.report | _ ↦ None ] ≡ Some told
          → device_of e ≡ Some told.0
      by (event.Ask reference device counter) same = on device s.told.report same
      by _ same = cc

  -- they are of the network
  pub found_of : AreSteps setting (s ∷ earlier) → IsOf setting.net found
  found_of is =
      record {
        looped = subst (λ o. IfSome o (λ d. d < length setting.net.devices)) (sym are.looped)
            (loop_within (first_on_loop setting earlier) (first_on_loop setting (s ∷ earlier))
            (λ d at. (found_passes (is_on_loop setting (s ∷ earlier)) (length setting.net.devices) d at).0));
        first = subst (λ o. IfSome o (λ two. two.0 < length setting.net.devices)) (sym are.roots)
            (first_within (two_least (roots setting earlier)) (two_least (roots setting (s ∷ earlier))) two_acting_bound);
        second = subst (λ o. IfSome o (λ two. two.1 < length setting.net.devices)) (sym are.roots)
            (second_within (two_least (roots setting earlier)) (two_least (roots setting (s ∷ earlier))) two_acting_bound);
        asked = subst (λ o. IfSome o (λ told. told.0 < length setting.net.devices)) (sym are.report)
            (asked_within (asked_report s) (λ told at. named_is_known setting earlier s.seen.event told.0 is.1 (report_named told at)));
      }
    where
      loop_within : (before now : Option ℕ) → ((d : ℕ) → now ≡ Some d → d < length setting.net.devices)
          → IfSome (if is_some before then None else now) (λ d. d < length setting.net.devices)
      loop_within None None within = tt
      loop_within None (Some d) within = within d refl
      loop_within (Some e) now within = tt

      first_within : (before now : Option (ℕ × ℕ))
          → ((two : ℕ × ℕ) → now ≡ Some two → (two.0 < length setting.net.devices) × (two.1 < length setting.net.devices))
          → IfSome (if is_some before then None else now) (λ two. two.0 < length setting.net.devices)
      first_within None None within = tt
      first_within None (Some two) within = (within two refl).0
      first_within (Some e) now within = tt

      second_within : (before now : Option (ℕ × ℕ))
          → ((two : ℕ × ℕ) → now ≡ Some two → (two.0 < length setting.net.devices) × (two.1 < length setting.net.devices))
          → IfSome (if is_some before then None else now) (λ two. two.1 < length setting.net.devices)
      second_within None None within = tt
      second_within None (Some two) within = (within two refl).1
      second_within (Some e) now within = tt

      asked_within : (o : Option (ℕ × Report)) → ((told : ℕ × Report) → o ≡ Some told → told.0 < length setting.net.devices)
          → IfSome o (λ told. told.0 < length setting.net.devices)
      asked_within None within = tt
      asked_within (Some told) within = within told refl

-- an event of which there is a report asks for one
pub asks_by_report : (s : Step) (told : ℕ × Report) → asked_report s ≡ Some told → is_ask s.seen.event ≡ true
asks_by_report s told is = by s.seen.event is
  where
    by : (e : Event) → elim e [ event.Ask reference device counter ↦ option_map (λ report. (device, report)) s.told.report | _ ↦ None ] ≡ Some told
        → is_ask e ≡ true
    by (event.Ask reference device counter) same = refl
    by _ same = cc

-- the numbers of the flights that a step sent are far below their end
pub numbers_fit : (setting : Setting) (s : Step) (earlier : List Step) → IsNetwork setting.net → AreSteps setting (s ∷ earlier)
    → first_number s.sent + length s.sent < 2 ^ 64
numbers_fit setting s earlier net is = by s.sent refl
  where
    by : (fs : List Flight) → s.sent ≡ fs → first_number fs + length fs < 2 ^ 64
    by [] none = omega arith
    by (f ∷ fs) some =
        let first : first_number s.sent ≡ flight_count earlier + 1 = first_is setting s earlier is (subst (λ xs. 0 < length xs) (sym some) (omega arith)) in
        let all = counted s earlier in
        let few : flight_count (s ∷ earlier) ≤ 2 ^ 41 = numbers_few setting (s ∷ earlier) is (omega (arith, net.links)) in
        let bound : first_number s.sent + length s.sent < 2 ^ 64 = omega (arith, first, all, few) in
        subst (λ xs. first_number xs + length xs < 2 ^ 64) some bound

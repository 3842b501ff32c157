-- After steps that agree the alarms and reports of an event are the same.
use Rattle.std.specs.Prelude.{◌≡◌, ℕ, ◌+◌, Bool, ◌&&◌, List, [], ◌∷◌, ◌++◌, length, find, Option, Some, None, option_map, option_and_then, refl, if◌then◌else◌}
use Rattle.std.proofs.Common.{◌∙◌, ap, append_assoc}
use Rattle.sd_num.specs.Lists.{map_or, same_number, follow}
use Rattle.sd_plan.specs.topo.Network.{Network, device_numbers}
use Rattle.sd_plan.specs.declared.Plan.{Plan}
use Rattle.sd_num.specs.declared.clock.Report.{Report}
use Rattle.sd_sched.specs.declared.Event.{Event}
use Rattle.sd_sched.specs.declared.Event.TheVariants as event
use Rattle.sd_sched.specs.Events.{reference_of}
use Rattle.sd_history.specs.World.{Setting, setting_over, is_counted}
use Rattle.sd_history.specs.Steps.{Answers, Told, Step, seen_of, live_answers, parent_in, acts_in, step_of}
use Rattle.sd_history.specs.Premises.{breaks}
use Rattle.sd_history.specs.Lines.{Line, counted_parent, is_on_loop, first_on_loop, roots, asked_report, broken_lines, loop_lines, root_lines, report_lines, lines_of}
use Rattle.sd_history.proofs.Shared.{same_follow}
use Rattle.sd_resume.specs.law.Shifts.{Shift, raised_event}
use Rattle.sd_resume.specs.law.Agreement.{raised_answers, raised_told, StepsAgree}
use Rattle.sd_resume.specs.law.Law.{whole, NamesSome, alarms_and_report}
use Rattle.sd_resume.proofs.law.Words.{same_words}
use Rattle.sd_resume.proofs.law.Plans.{counted_same}
use Rattle.sd_resume.proofs.law.Acts.{acts_same, filter_same, any_same}
use Rattle.sd_resume.proofs.law.Stepping.{agree_after}

-- the lines of an event are those that name a broken premise, and these
pub lines_are : (setting : Setting) (s : Step) (earlier : List Step)
    → lines_of setting (s ∷ earlier) ≡ broken_lines (breaks setting (seen_of (s ∷ earlier))) ++ alarms_and_report setting (s ∷ earlier)
lines_are setting s earlier =
    four (broken_lines (breaks setting (seen_of (s ∷ earlier)))) (loop_lines (first_on_loop setting earlier) (first_on_loop setting (s ∷ earlier)))
    (root_lines (roots setting earlier) (roots setting (s ∷ earlier))) (map_or (asked_report s) [] (report_lines (reference_of s.seen.event)))
  where
    four : (a b c d : List Line) → a ++ b ++ c ++ d ≡ a ++ (b ++ c ++ d)
    four a b c d = simp append_assoc

find_same : {A : Type 0} (p q : A → Bool) → ((x : A) → p x ≡ q x) → (xs : List A) → find p xs ≡ find q xs
find_same p q same [] = refl
find_same p q same (x ∷ xs) = ap (λ b. if b then Some x else find p xs) (same x) ∙ ap (λ o. if q x then Some x else o) (find_same p q same xs)

asked_same : (shift : Shift) (e : Event) (report : Option Report)
    → elim (raised_event shift e) as (λ (x : Event). Option (ℕ × Report)) [
      | event.Ask reference device counter ↦ option_map (λ (r : Report). (device, r)) report
      | _ ↦ None
    ] ≡ elim e as (λ (x : Event). Option (ℕ × Report)) [
      | event.Ask reference device counter ↦ option_map (λ (r : Report). (device, r)) report
      | _ ↦ None
    ]
asked_same shift (event.Ask reference device counter) report = refl
asked_same shift _ report = refl

module _ (shift : Shift) (net : Network) (front plans : List Plan) (behind : shift.plans ≡ length front) where
  module _ (one other : List Step) (agree : StepsAgree shift one other) where
    parent_same : (d : ℕ) → parent_in one d ≡ parent_in other d
    parent_same d = ap (option_and_then (λ (a : Answers). a.parent)) (agree.answers d) ∙ go (live_answers other d)
      where
        go : (a : Option Answers) → option_and_then (λ (x : Answers). x.parent) (option_map (raised_answers shift) a) ≡ option_and_then (λ (x : Answers). x.parent) a
        go None = refl
        go (Some a) = refl

    counted_parent_same : (d : ℕ) → counted_parent (whole net front plans) one d ≡ counted_parent (setting_over net plans) other d
    counted_parent_same d =
        ap (λ b. if b then parent_in one d else None) (counted_same shift net front plans behind (seen_of one) (seen_of other) agree.seen d)
        ∙ ap (λ o. if is_counted (setting_over net plans) (seen_of other) d then o else None) (parent_same d)

    pub loop_same : first_on_loop (whole net front plans) one ≡ first_on_loop (setting_over net plans) other
    loop_same =
        find_same (is_on_loop (whole net front plans) one) (is_on_loop (setting_over net plans) other)
        (λ d. any_same (λ n. same_number (follow (counted_parent (whole net front plans) one) (n + 1) d) d)
        (λ n. same_number (follow (counted_parent (setting_over net plans) other) (n + 1) d) d)
        (λ n. ap (λ o. same_number o d)
        (same_follow (counted_parent (whole net front plans) one) (counted_parent (setting_over net plans) other) counted_parent_same (n + 1) d))
        (device_numbers net))
        (device_numbers net)

    pub roots_same : roots (whole net front plans) one ≡ roots (setting_over net plans) other
    roots_same =
        filter_same (λ d. is_counted (whole net front plans) (seen_of one) d && acts_in one d) (λ d. is_counted (setting_over net plans) (seen_of other) d && acts_in other d)
        (λ d. ap (λ b. b && acts_in one d) (counted_same shift net front plans behind (seen_of one) (seen_of other) agree.seen d)
        ∙ ap (λ b. is_counted (setting_over net plans) (seen_of other) d && b) (acts_same shift one other agree d))
        (device_numbers net)

  -- An event, and its raised one, of which the same is told.
  pub lines_same : (one other : List Step) → StepsAgree shift one other → (e : Event) → NamesSome e → (told : Told)
      → alarms_and_report (whole net front plans) (step_of (whole net front plans) one (raised_event shift e) (raised_told shift told) ∷ one)
      ≡ alarms_and_report (setting_over net plans) (step_of (setting_over net plans) other e told ∷ other)
  lines_same one other agree e some told =
      let s : Step = step_of (whole net front plans) one (raised_event shift e) (raised_told shift told) in
      let t : Step = step_of (setting_over net plans) other e told in
      let next : StepsAgree shift (s ∷ one) (t ∷ other) = agree_after shift net front plans behind one other agree e some told in
      three (loop_lines (first_on_loop (whole net front plans) one) (first_on_loop (whole net front plans) (s ∷ one)))
      (loop_lines (first_on_loop (setting_over net plans) other) (first_on_loop (setting_over net plans) (t ∷ other)))
      (root_lines (roots (whole net front plans) one) (roots (whole net front plans) (s ∷ one)))
      (root_lines (roots (setting_over net plans) other) (roots (setting_over net plans) (t ∷ other)))
      (map_or (asked_report s) [] (report_lines (reference_of (raised_event shift e))))
      (map_or (asked_report t) [] (report_lines (reference_of e)))
      (ap (λ o. loop_lines o (first_on_loop (whole net front plans) (s ∷ one))) (loop_same one other agree)
      ∙ ap (loop_lines (first_on_loop (setting_over net plans) other)) (loop_same (s ∷ one) (t ∷ other) next))
      (ap (λ o. root_lines o (roots (whole net front plans) (s ∷ one))) (roots_same one other agree)
      ∙ ap (root_lines (roots (setting_over net plans) other)) (roots_same (s ∷ one) (t ∷ other) next))
      (ap (λ o. map_or o [] (report_lines (reference_of (raised_event shift e)))) (asked_same shift e told.report)
      ∙ ap (λ w. map_or (asked_report t) [] (report_lines w.reference)) (same_words shift e))
    where
      three : (a a' b b' c c' : List Line) → a ≡ a' → b ≡ b' → c ≡ c' → a ++ b ++ c ≡ a' ++ b' ++ c'
      three a a' b b' c c' first second third = rw (first, second, third) refl

-- While no premise is broken after the second of two histories that agree, the first stays calm: what is proved of the second is the same of the first.
use Rattle.std.specs.Prelude.{◌≡◌, ℕ, ◌+◌, ◌≤◌, true, List, ◌∷◌, ◌++◌, length, map, count_by, refl}
use Rattle.std.proofs.Common.{arith, sym, ◌∙◌, ap, subst}
use Rattle.sd_plan.specs.topo.Network.{Network}
use Rattle.sd_plan.specs.declared.Plan.{Plan}
use Rattle.sd_sched.specs.declared.Event.{Event}
use Rattle.sd_history.specs.World.{Setting, setting_over}
use Rattle.sd_history.specs.Steps.{Step, seen_of}
use Rattle.sd_history.specs.Chronicle.{next_step, chronicle}
use Rattle.sd_history.specs.Admitted.{IsAdmitted}
use Rattle.sd_history.specs.Premises.{all_hold, breaks}
use Rattle.sd_history.specs.Lines.{broken_lines, lines_of}
use Rattle.sd_history.proofs.Contained.{admitted_reports_contain}
use Rattle.sd_safety.specs.invariant.Coming.{IsFair}
use Rattle.sd_safety.specs.invariant.Kept.{IsSafe}
use Rattle.sd_safety.proofs.invariant.Parts.{all_are_more, fair_is_guarded}
use Rattle.sd_safety.proofs.whole.Safe.{always_safe}
use Rattle.sd_replay.specs.Calm.{IsCalm}
use Rattle.sd_replay.specs.Tallies.{is_alarm}
use Rattle.sd_replay.proofs.Counted.{count_append}
use Rattle.sd_replay.proofs.Due.{all_honest, four_parts, no_alarm_due, none_broken}
use Rattle.sd_resume.specs.law.Shifts.{Shift, raised_event}
use Rattle.sd_resume.specs.law.Agreement.{StepsAgree}
use Rattle.sd_resume.specs.law.Law.{whole, alarms_and_report, HistoriesAgree, StaysCalm}
use Rattle.sd_resume.proofs.law.Laws.{GoOn, resumed, run_is}
use Rattle.sd_resume.proofs.law.Lines.{lines_are, loop_same, roots_same}

-- the lines of alarms are among those that name no broken premise
alarms_among : (setting : Setting) (s : Step) (earlier : List Step)
    → count_by is_alarm (lines_of setting (s ∷ earlier)) ≡ count_by is_alarm (alarms_and_report setting (s ∷ earlier))
alarms_among setting s earlier =
    ap (count_by is_alarm) (lines_are setting s earlier)
    ∙ count_append is_alarm (broken_lines (breaks setting (seen_of (s ∷ earlier)))) (alarms_and_report setting (s ∷ earlier))
    ∙ none (count_by is_alarm (broken_lines (breaks setting (seen_of (s ∷ earlier))))) (count_by is_alarm (alarms_and_report setting (s ∷ earlier)))
    (none_broken is_alarm (λ p. refl) (breaks setting (seen_of (s ∷ earlier))))
  where
    none : (a b : ℕ) → a ≡ 0 → a + b ≡ b
    none a b zero_ = omega (arith, zero_)

-- a history of any length in which no premise is broken is calm
admitted_is_calm : (setting : Setting) → IsFair setting → (e : Event) (earlier : List Event) → IsAdmitted setting (e ∷ earlier)
    → all_hold setting (seen_of (chronicle setting (e ∷ earlier))) ≡ true → IsCalm setting (chronicle setting (e ∷ earlier))
admitted_is_calm setting fair e earlier is holds =
    let before : List Step = chronicle setting earlier in
    let here : Step = next_step setting before e in
    let kept : IsSafe setting (here ∷ before) =
    always_safe setting (e ∷ earlier) (fair_is_guarded setting fair)
    (record { is = is; premises = all_are_more setting (seen_of (here ∷ before)) holds }) in
    let others = no_alarm_due setting here before kept.loop kept.root (admitted_reports_contain setting (e ∷ earlier) is (all_honest setting here before holds)) in
    let premises = none_broken is_alarm (λ p. refl) (breaks setting (seen_of (here ∷ before))) in
    let parts = four_parts setting here before is_alarm in
    record { no_loop = kept.loop; one_root = kept.root; no_alarm = omega (arith, parts, premises, others) }

module _ (shift : Shift) (net : Network) (front plans : List Plan) (one other : List Event) (agree : HistoriesAgree shift net front plans one other)
    (fair : IsFair (setting_over net plans)) where
  pub stays_calm : StaysCalm shift (whole net front plans) (setting_over net plans) one other
  stays_calm e later may admitted holds =
      let on : GoOn shift net front plans one other (e ∷ later) = resumed shift net front plans one other agree (e ∷ later) may admitted in
      let steps_one : List Step = chronicle (whole net front plans) (map (raised_event shift) later ++ one) in
      let steps_other : List Step = chronicle (setting_over net plans) (later ++ other) in
      let s : Step = next_step (whole net front plans) steps_one (raised_event shift e) in
      let t : Step = next_step (setting_over net plans) steps_other e in
      let first_is = run_is (whole net front plans) on.agree.first (raised_event shift e ∷ (map (raised_event shift) later ++ one)) on.agree.first_runs
      on.agree.first_happened in
      let second_is = run_is (setting_over net plans) on.agree.second (e ∷ (later ++ other)) on.agree.second_runs on.agree.second_happened in
      let alike : StepsAgree shift (s ∷ steps_one) (t ∷ steps_other) =
      subst (λ steps. StepsAgree shift steps (t ∷ steps_other)) first_is (subst (StepsAgree shift _) second_is on.agree.agree.steps) in
      let calm : IsCalm (setting_over net plans) (t ∷ steps_other) = admitted_is_calm (setting_over net plans) fair e (later ++ other) admitted holds in
      record {
        no_loop = loop_same shift net front plans agree.behind (s ∷ steps_one) (t ∷ steps_other) alike ∙ calm.no_loop;
        one_root = subst (λ (ds : List ℕ). length ds ≤ 1)
            (sym (roots_same shift net front plans agree.behind (s ∷ steps_one) (t ∷ steps_other) alike)) calm.one_root;
        no_alarm =
            alarms_among (whole net front plans) s steps_one
            ∙ ap (count_by is_alarm) on.says.1
            ∙ sym (alarms_among (setting_over net plans) t steps_other)
            ∙ calm.no_alarm;
      }

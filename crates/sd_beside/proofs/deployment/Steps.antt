-- Each step of a deployed fleet keeps that a struct stands for the life of its device.
use Rattle.std.specs.Prelude.{◌≡◌, ℕ, ◌+◌, ◌≤◌, [], Option, Some, None, IfSome, refl}
use Rattle.std.proofs.Common.{sym, ◌∙◌, ap, subst}
use Rattle.sd_num.specs.declared.Rates.{Rates}
use Rattle.sd_plan.specs.declared.Duty.{Duty}
use Rattle.sd_plan.specs.topo.Network.{Network}
use Rattle.sd_device.specs.declared.registers.Registers.{Registers}
use Rattle.sd_device.specs.Calls.{Call, Commit, Past}
use Rattle.sd_device.specs.Living.{Life}
use Rattle.sd_device.specs.Words.{counter_of, effect_of, given_now, rates_now}
use Rattle.sd_device.specs.Lives.{past_of, longer, latest_counter, IsOrderly}
use Rattle.sd_device.specs.Rules.{called, parent_in, acts_in, epoch_in}
use Rattle.sd_device.specs.Standing.{last_of, alone}
use Rattle.sd_device.specs.Rebases.{rebased, call_lowered, IsSteady, StandsLowered}
use Rattle.sd_device.proofs.Stands.{IsDue}
use Rattle.sd_device.proofs.Orderly.{in_order, due_by}
use Rattle.sd_device.proofs.Exactness.{device_is_exact}
use Rattle.sd_device.proofs.Summing.{lowered_after, not_lowered}
use Rattle.sd_history.specs.Chronicle.{answers_by}
use Rattle.sd_history.proofs.Tellings.{answers_agree}
use Rattle.sd_history.proofs.Owned.{OwnPast, rates_are_own}
use Rattle.sd_beside.specs.deployment.Deployment.{Kept}
use Rattle.sd_beside.specs.deployment.Steps.{KeepsRate, MakingStands, RestoreStands, UnchangedIsRestored, RebaseStands, CallStands, ReportStands, AnswersStand}

-- the same number of lowered counters, and of the latest rebase
lowered_same : (by now more later : ℕ) (r : Registers) (life : Life) → more ≡ by → later ≡ now → StandsLowered by now r life → StandsLowered more later r life
lowered_same by now more later r life by_same now_same stands =
    subst (λ n. StandsLowered n later r life) (sym by_same) (subst (λ n. StandsLowered by n r life) (sym now_same) stands)

-- a call of an orderly life is due
call_due : (life : Life) (call : Call) → IsOrderly (longer life call) → IsDue (last_of (past_of life)) (counter_of call)
call_due life call orderly =
    due_by (last_of (past_of life)) (latest_counter life.making life.calls) (counter_of call)
    (in_order life.making life.calls orderly.never_falls.0).kept orderly.never_falls.1

-- a duty that is given has the rates of its device
given_rates : (net : Network) (d : ℕ) (past : Past) → OwnPast net d past → (o : Option Duty) → given_now past ≡ o
    → IfSome o (λ duty. duty.rates.ppm ≡ (rates_now past).ppm)
given_rates net d past own None is = tt
given_rates net d past own (Some u) is =
    ap (λ (rates : Rates). rates.ppm) ((own.duties.given u is).rates ∙ sym (rates_are_own net d past own))

module _ {S : Type 0} (Holds : S → Registers → Type 0) where
  -- where the duties are of one topology
  pub keeps_rate : (net : Network) (d : ℕ) (kept : Kept S) (life : Life) (call : Call) → OwnPast net d (past_of life) → KeepsRate Holds kept life call
  keeps_rate net d kept life (Commit counter) own r holds = λ moved. given_rates net d (past_of life) own (given_now (past_of life)) refl
  keeps_rate net d kept life _ own r holds = tt

  pub making_stands : MakingStands Holds
  making_stands making struct made = (made.told.0, made.told.1, not_lowered made.told.0 (alone making) made.told.2)

  pub restore_stands : RestoreStands Holds
  restore_stands old new life restored stands = (
    stands.0,
    restored.holds stands.0 stands.1,
    lowered_same old.lowered old.since new.lowered new.since stands.0 life restored.lowered restored.since stands.2,
  )

  pub unchanged_is_restored : UnchangedIsRestored Holds
  unchanged_is_restored kept struct call effect is same =
      record { holds = λ r holds. subst (Holds struct) (same r holds) (is.registers r holds); lowered = refl; since = refl }

  pub rebase_stands : RebaseStands Holds
  rebase_stands old new life rebase stands = (
    rebased_registers,
    rebase.rebased.registers stands.0 stands.1,
    lowered_same (old.lowered + rebase.by) (rebase.counter + old.lowered) new.lowered new.since rebased_registers life rebase.lowered rebase.since
        (rebase.rebased.told stands.0 stands.1 old.lowered old.since life stands.2 (subst (λ n. old.since ≤ n) rebase.since rebase.later)),
  )
    where
      rebased_registers : Registers
      rebased_registers = rebased stands.0 rebase.counter

  pub call_stands : CallStands Holds
  call_stands kept struct life call effect orderly stands due rate is = (
    ((called r (call_lowered kept.lowered call)).0, is.registers r holds, after.0),
    is.sent r holds ∙ after.1,
  )
    where
      r : Registers
      r = stands.0

      holds : Holds kept.struct r
      holds = stands.1

      lower : StandsLowered kept.lowered kept.since r life
      lower = stands.2

      is_due : IsDue lower.one.last (counter_of call)
      is_due = subst (λ (x : Registers). IsDue x.last (counter_of call)) (sym lower.stands.are) (call_due life call orderly)

      steady : IsSteady kept.lowered lower.one r call
      steady = subst (λ x. IsSteady kept.lowered x r call) (sym lower.stands.are) (rate r holds)

      after : StandsLowered kept.lowered kept.since (called r (call_lowered kept.lowered call)).0 (longer life call)
          × ((called r (call_lowered kept.lowered call)).1 ≡ effect_of (past_of life) call)
      after = lowered_after kept.lowered kept.since r life call lower due steady is_due

  pub report_stands : ReportStands Holds
  report_stands kept life counter report stands due told =
      let lower : StandsLowered kept.lowered kept.since stands.0 life = stands.2 in
      device_is_exact.reported lower.one counter report life (told stands.0 stands.1 ∙ (lower.alike []).report counter due) lower.stands

  pub answers_stand : AnswersStand Holds
  answers_stand kept life answers orderly stands answered =
      answers_agree answers (answers_by (past_of life))
      (answered.parent.registers r holds ∙ ap parent_in alike ∙ device_is_exact.parent lower.one life lower.stands orderly)
      (answered.acts.registers r holds ∙ ap acts_in alike ∙ device_is_exact.acts lower.one life lower.stands orderly)
      (answered.epoch.registers r holds ∙ ap epoch_in alike ∙ device_is_exact.epoch lower.one life lower.stands orderly)
      (answered.given r holds ∙ ap (λ (x : Registers). x.given) alike ∙ device_is_exact.given lower.one life lower.stands orderly)
      (answered.sealed r holds ∙ ap (λ (x : Registers). x.sealed) alike ∙ device_is_exact.sealed lower.one life lower.stands orderly)
    where
      r : Registers
      r = stands.0

      holds : Holds kept.struct r
      holds = stands.1

      lower : StandsLowered kept.lowered kept.since r life
      lower = stands.2

      alike : r ≡ record lower.one { last = r.last; sent = r.sent; estimate = r.estimate }
      alike = (lower.alike []).kept

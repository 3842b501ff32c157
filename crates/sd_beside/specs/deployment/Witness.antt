-- Runs of deployed fleets under accepted plans, with rebases on the way. In that of the first 109 lines of examples/triangle, all but the end of its schedule,
-- the root fails, the backup root takes over, and a renewal brings in a second plan. In that of the second witness a link fails, and all hear again. In that
-- of the fourth the root fails after a renewal, and all hear again.
use Rattle.std.specs.Prelude.{◌≡◌, ℕ, ◌+◌, ◌-◌, ◌<◌, ◌≤◌, true, List, ◌∷◌, reverse, take, Option, Some, option_map}
use Rattle.sd_plan.specs.declared.domain.DomainId.TheVariants as domain
use Rattle.sd_checker.specs.check_root.Timing.{silence}
use Rattle.sd_checker.specs.Conditions.{IsAccepted}
use Rattle.sd_drill.specs.Drill.{IsWorst}
use Rattle.sd_sched.specs.declared.Event.TheVariants as event
use Rattle.sd_device.specs.declared.registers.Registers.{Registers}
use Rattle.sd_exports.specs.Exports.{Themselves}
use Rattle.sd_history.specs.World.{alone}
use Rattle.sd_history.specs.Steps.{seen_of}
use Rattle.sd_history.specs.Premises.{all_hold}
use Rattle.sd_safety.specs.invariant.Kept.{IsSafe}
use Rattle.sd_bound.specs.Hearing.{IsServed, recovery}
use Rattle.sd_bound.specs.Renewed.{IsRenewed, IsSettledIn}
use Rattle.sd_bound.specs.Steady.{RecoversSteadily, IsSteadySince}
use Rattle.sd_beside.specs.witness.Shared.{budget, last_report, report}
use Rattle.sd_beside.specs.witness.Schedules.{after_line}
use Rattle.sd_beside.specs.witness.Values.{network, first_plan, second_plan, setting, events}
use Rattle.sd_beside.specs.witness.Witnesses.{TakesOver, Commits, Closes}
use Rattle.sd_beside.specs.witness.mended.Values as mended
use Rattle.sd_beside.specs.witness.after_renewal.Values as after_renewal
use Rattle.sd_beside.specs.witness.after_renewal.Witness.{after, IsAfterRenewal}
use Rattle.sd_beside.specs.deployment.Deployment.{Moment, steps_of, struct_in, IsDeployment}
use Rattle.sd_beside.specs.deployment.Laws.{events_in}
use Rattle.sd_beside.specs.deployment.Worked.{moment_of, run_of}

-- the first lines, as a run
abbrev pub run : ℕ → List (Moment Registers)
run n = run_of setting (reverse (take n events))

-- by how much the counter of a device was lowered in all after these lines
abbrev pub lowered_by : ℕ → ℕ → Option ℕ
lowered_by n d = option_map (λ kept. kept.lowered) (struct_in (run n) d)

-- Safety

-- It is a run of a deployed fleet, its steps are those lines, and it breaks no premise. So it is safe by the theorem on deployed fleets.
pub record IsSafeRun : Type 0 where
  pub is : IsDeployment Themselves setting (run 109)
  pub steps : steps_of setting (run 109) ≡ after_line setting events 109
  pub first_accepted : IsAccepted network first_plan
  pub second_accepted : IsAccepted network second_plan
  pub premises : all_hold setting (seen_of (steps_of setting (run 109))) ≡ true
  pub takes_over : TakesOver events
  pub commits : Commits events
  pub closes : Closes events
  pub safe : IsSafe setting (steps_of setting (run 109))

-- Devices 1 and 2 are rebased while they wait for the root that failed, before device 1 takes over at line 85, and after the renewal that closes at
-- line 101.
pub record AreRebased : Type 0 where
  pub first_waits : lowered_by 84 1 ≡ Some 1519908800
  pub second_waits : lowered_by 84 2 ≡ Some 160757681
  pub first_renewed : lowered_by 109 1 ≡ Some 3039817600
  pub second_renewed : lowered_by 109 2 ≡ Some 3041314507

-- After the renewal nothing fails, so that the lemmas on renewed plans apply. By one of them device 2 stands where the second plan puts it when it reports at
-- line 109.
pub record IsRenewedRun : Type 0 where
  pub renewed : IsRenewed (steps_of setting (run 108))
  pub settled : IsSettledIn setting (steps_of setting (run 108)) 3205000000 2

-- The bound

-- the first 89 lines under the first plan alone
abbrev pub recovering : List (Moment Registers)
recovering = run_of (alone network first_plan) (reverse (take 89 events))

-- a run to which the bound applies, in which the root fails. Its last moment is a report, which is below its bound by the theorem on deployed fleets.
pub record IsBoundedRun : Type 0 where
  pub is : IsDeployment Themselves (alone network first_plan) recovering
  pub recovers : RecoversSteadily network first_plan budget (domain.Device 0) (events_in recovering)
  pub bound : IsWorst network first_plan budget (domain.Device 0) 2 5048333
  pub reported : last_report (steps_of (alone network first_plan) recovering) ≡ Some (2, report 2885262869 879413)
  pub below : 879413 ≤ 5048333

-- Hearing again

-- the first 329 lines of the second witness under its first plan alone, and a report
abbrev pub hearing : List (Moment Registers)
hearing = run_of (alone mended.network mended.first_plan) (reverse (take 329 mended.events))

abbrev pub asked : Moment Registers
asked = moment_of (alone mended.network mended.first_plan) hearing (event.Ask 7745000000 2 7745851950)

-- A run to which the theorem on hearing again applies, in which the link of device 2 to its primary parent fails. By that theorem on deployed fleets the
-- device has heard of a root since. It was rebased last at 7200 us, after it moved to its backup parent.
pub record IsHearingRun : Type 0 where
  pub is : IsDeployment Themselves (alone mended.network mended.first_plan) (asked ∷ hearing)
  pub steady : IsSteadySince mended.network mended.first_plan (domain.Link 2) 270000000 (events_in (asked ∷ hearing))
  pub bound : IsWorst mended.network mended.first_plan budget (domain.Link 2) 2 5048333
  pub late : 270000000 + recovery mended.network mended.first_plan < 7745000000
  pub rebased : option_map (λ kept. kept.since) (struct_in hearing 2) ≡ Some 7200792000
  pub served : IsServed (steps_of (alone mended.network mended.first_plan) hearing) 2 270000000 (7745000000 - silence mended.network)

-- After a renewal

-- all lines of the fourth witness
abbrev pub hit : List (Moment Registers)
hit = run_of mended.setting (after_renewal.first_events 325)

-- A run under two accepted plans that breaks no premise. The renewal closes at line 38, the root fails at line 40, device 1 takes over at line 128, and
-- device 2 moves at line 290. Each lemma on renewed plans applies to it (IsAfterRenewal). Devices 1 and 2 are rebased before and after that.
pub record IsHitRun : Type 0 where
  pub is : IsDeployment Themselves mended.setting hit
  pub steps : steps_of mended.setting hit ≡ after 325
  pub rebased_waiting : option_map (λ kept. kept.since) (struct_in (run_of mended.setting (after_renewal.first_events 127)) 1) ≡ Some 2879827200
  pub first_rebased : option_map (λ kept. kept.since) (struct_in hit 1) ≡ Some 7919524800
  pub second_rebased : option_map (λ kept. kept.since) (struct_in hit 2) ≡ Some 7920871200
  pub applies : IsAfterRenewal
  pub safe : IsSafe mended.setting (steps_of mended.setting hit)

-- all of them
pub record IsWitness : Type 0 where
  pub safe : IsSafeRun
  pub rebased : AreRebased
  pub renewed : IsRenewedRun
  pub bounded : IsBoundedRun
  pub hearing : IsHearingRun
  pub hit : IsHitRun

-- What is shown of the fourth witness: what happens at which line, and that each lemma on plans that a renewal brought in applies to it.
use Rattle.std.specs.Prelude.{◌≡◌, ℕ, ◌+◌, ◌-◌, ◌<◌, ◌≤◌, true, false, List, [], ◌∷◌, length, Some, is_some}
use Rattle.sd_plan.specs.declared.topo.Thing.TheVariants as thing
use Rattle.sd_plan.specs.declared.domain.DomainId.TheVariants as domain
use Rattle.sd_plan.specs.topo.Network.{rates_of}
use Rattle.sd_checker.specs.check_root.Timing.{silence}
use Rattle.sd_checker.specs.Conditions.{IsAccepted}
use Rattle.sd_drill.specs.ages.Ages.{IsOldest, ageing}
use Rattle.sd_drill.specs.Drill.{IsWorst}
use Rattle.sd_device.specs.Calls.{Past}
use Rattle.sd_device.specs.Words.{estimate_now, report_at}
use Rattle.sd_sched.specs.declared.Event.{Event}
use Rattle.sd_sched.specs.declared.Event.TheVariants as event
use Rattle.sd_history.specs.World.{Seen, has_failed, epoch_in_force, in_force, is_counted}
use Rattle.sd_history.specs.Steps.{Step, seen_of, parent_in, acts_in}
use Rattle.sd_history.specs.Chronicle.{chronicle, past_in, IsHistory}
use Rattle.sd_history.specs.Premises.{all_hold}
use Rattle.sd_history.specs.Lines.{roots}
use Rattle.sd_bound.specs.Halves.{IsBased}
use Rattle.sd_bound.specs.Hearing.{IsServed, recovery}
use Rattle.sd_bound.specs.ages.Sums.{lag}
use Rattle.sd_bound.specs.Renewed.{IsRenewed, IsSettledIn}
use Rattle.sd_bound.specs.RenewedBound.{IsRenewedSince, IsHitOnce}
use Rattle.sd_bound.specs.RenewedBases.{IsBudgeted}
use Rattle.sd_beside.specs.witness.Shared.{budget, last_report, report}
use Rattle.sd_beside.specs.witness.mended.Values.{network, first_plan, second_plan, setting}
use Rattle.sd_beside.specs.witness.after_renewal.Values.{events, first_events}

-- the state after the first lines
abbrev pub after : ℕ → List Step
after n = chronicle setting (first_events n)

-- what is seen of them
abbrev pub seen : ℕ → List Seen
seen n = seen_of (after n)

-- both plans are accepted, each event is accepted after those before it, and no premise is broken
pub record MeetsAll : Type 0 where
  pub count : length events ≡ 325
  pub first_accepted : IsAccepted network first_plan
  pub second_accepted : IsAccepted network second_plan
  pub history : IsHistory setting (first_events 325)
  pub premises : all_hold setting (seen 325) ≡ true

-- The renewal closes, and device 2 reports. Then the root fails, device 1 takes over, and device 2 moves to it and reports again.
pub record TakesOver : Type 0 where
  pub open_still : epoch_in_force (seen 37) ≡ 1
  pub closed : epoch_in_force (seen 38) ≡ 2
  pub root_acts : roots setting (after 39) ≡ 0 ∷ []
  pub root_fails : has_failed (seen 40) (thing.Device 0) ≡ true
  pub nobody_acts : roots setting (after 127) ≡ []
  pub backup_root_acts : roots setting (after 128) ≡ 1 ∷ []
  pub on_primary : parent_in (after 289) 2 ≡ Some 0
  pub on_backup : parent_in (after 290) 2 ≡ Some 1
  pub reported : last_report (after 324) ≡ Some (2, report 7925057010 716873)

-- Before the failure

-- nothing has failed since the renewal when device 2 reports at line 39, so the lemmas on such plans apply
pub record AgesLittle : Type 0 where
  pub renewed : IsRenewed (after 38)
  pub past : is_some (past_in (after 38) 2) ≡ true
  pub oldest : IsOldest (rates_of network 2) (lag network) 572178436
  -- by `stays_settled` and `reports_age_little`
  pub settled : IsSettledIn setting (after 38) 370000000 2
  pub little : (past : Past) → past_in (after 38) 2 ≡ Some past
      → (report_at past 370040700).eps ≤ (estimate_now past).base + ageing (rates_of network 2) 572178436

-- After it

-- the report at line 324
abbrev pub asked : Event
asked = event.Ask 7925000000 2 7925871750

-- the lemmas on renewed plans in which things of one domain fail ask for all of this
pub record AreHit : Type 0 where
  pub force : in_force setting (seen 323) ≡ second_plan
  pub bound : IsWorst network second_plan budget (domain.Device 0) 2 5048333
  pub counts : is_counted setting (seen 323) 2 ≡ true
  pub follows : acts_in (after 323) 2 ≡ false
  pub past : is_some (past_in (after 323) 2) ≡ true
  pub since : IsRenewedSince setting (domain.Device 0) 375000000 asked (first_events 323)
  pub late : 375000000 + recovery network second_plan < 7925000000
  pub once : IsHitOnce setting (domain.Device 0) 375000000 (after 323)
  pub budgeted : IsBudgeted budget (chronicle setting (asked ∷ first_events 323))

-- and this is what they say: `hears_again_renewed`, `ages_hold_renewed`, `bases_hold_renewed`, `drill_holds_renewed` and `bound_holds_renewed`
pub record HoldAgain : Type 0 where
  pub served : IsServed (after 323) 2 375000000 (7925000000 - silence network)
  pub aged : (past : Past) → past_in (after 323) 2 ≡ Some past
      → (report_at past 7925871750).eps ≤ (estimate_now past).base + ageing (rates_of network 2) 9726662077
  pub based : (past : Past) → past_in (after 323) 2 ≡ Some past
      → IsBased network second_plan budget (domain.Device 0) (after 323) 2 (estimate_now past).base
  pub below : (past : Past) → past_in (after 323) 2 ≡ Some past → (report_at past 7925871750).eps ≤ 5048333
  pub below_so : (past : Past) → past_in (after 323) 2 ≡ Some past → (report_at past 7925871750).eps ≤ 5048333

-- all of it
pub record IsAfterRenewal : Type 0 where
  pub meets : MeetsAll
  pub takes_over : TakesOver
  pub ages : AgesLittle
  pub hit : AreHit
  pub holds : HoldAgain

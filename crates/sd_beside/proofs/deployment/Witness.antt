-- The witness: the first lines of examples/triangle are a run of a deployed fleet, whose devices are rebased on the way.
use Rattle.std.specs.Prelude.{◌≡◌, ◌≤◌, true, List, [], ◌∷◌, option_map, reverse, take, Some, IsTrue, refl}
use Rattle.std.proofs.Common.{sym, ◌∙◌, ap, subst}
use Rattle.std.proofs.lemmas.Bool.{ltb-true}
use Rattle.sd_plan.specs.declared.domain.DomainId.TheVariants as domain
use Rattle.sd_sched.specs.Lines.{event_of_line}
use Rattle.sd_sched.specs.declared.Event.{Event}
use Rattle.sd_sched.specs.declared.Event.TheVariants as event
use Rattle.sd_num.specs.declared.clock.Report.{Report}
use Rattle.sd_exports.specs.Exports.{Themselves}
use Rattle.sd_history.specs.World.{Setting, in_force, is_counted}
use Rattle.sd_history.specs.Steps.{Step, seen_of}
use Rattle.sd_history.specs.Chronicle.{chronicle}
use Rattle.sd_history.specs.Premises.{all_hold}
use Rattle.sd_history.specs.Admitted.{IsAdmitted}
use Rattle.sd_history.proofs.Admitted.{history_is_admitted}
use Rattle.sd_safety.specs.invariant.Eras.{belongs}
use Rattle.sd_safety.specs.invariant.Guarded.{IsSteady, all_but_start_hold}
use Rattle.sd_safety.proofs.invariant.Parts.{all_are_more, accepted_is_guarded, fair_is_guarded}
use Rattle.sd_bound.proofs.Renewed.{stays_settled}
use Rattle.sd_bound.specs.Recovering.{Recovers, steps_under}
use Rattle.sd_bound.specs.Hearing.{IsUndisturbedSince}
use Rattle.sd_bound.specs.Renewed.{IsRenewed, IsSettledIn}
use Rattle.sd_bound.specs.Steady.{RecoversSteadily, IsSteadySince}
use Rattle.sd_beside.specs.witness.Shared.{budget, last_report, was_counted, report}
use Rattle.sd_beside.specs.witness.Texts.{schedule_lines}
use Rattle.sd_beside.specs.witness.Schedules.{after_line}
use Rattle.sd_beside.specs.witness.Values.{network, first_plan, setting, events}
use Rattle.sd_beside.specs.witness.mended.Values as mended
use Rattle.sd_beside.specs.witness.after_renewal.Values as after_renewal
use Rattle.sd_beside.specs.witness.after_renewal.Witness.{after}
use Rattle.sd_beside.proofs.witness.Renewed.{renewal}
use Rattle.sd_beside.proofs.witness.Recovered.{under, recovery}
use Rattle.sd_beside.proofs.witness.mended.Mended.{under as mended_under, fair, mended as second_witness}
use Rattle.sd_beside.proofs.witness.mended.Read.{is_network, first_fits}
use Rattle.sd_beside.proofs.witness.after_renewal.Hit.{after_renewal as after_renewal_holds}
use Rattle.sd_beside.specs.deployment.Deployment.{steps_of, struct_in, IsDeployment}
use Rattle.sd_beside.specs.deployment.Laws.{events_in, IsItsHistory}
use Rattle.sd_beside.specs.deployment.Worked.{after_call, run_of}
use Rattle.sd_beside.specs.deployment.Witness.{run, recovering, hearing, asked, hit, IsSafeRun, AreRebased, IsRenewedRun, IsBoundedRun, IsHearingRun, IsHitRun, IsWitness}
use Rattle.sd_beside.proofs.deployment.History.{is_history}
use Rattle.sd_beside.proofs.deployment.Fleets.{fleet_stays_safe, fleet_stays_below, fleet_hears_again}
use Rattle.sd_beside.proofs.deployment.Worked.{may_call, all_follow, is_deployment}

-- a run that is worked out has these events
events_are : (over : Setting) (history : List Event) → events_in (run_of over history) ≡ history
events_are over [] = refl
events_are over (e ∷ earlier) = ap (λ es. e ∷ es) (events_are over earlier)

-- and their steps
steps_are : (over : Setting) (history : List Event) → IsDeployment Themselves over (run_of over history)
    → steps_of over (run_of over history) ≡ chronicle over history
steps_are over history is =
    let its : IsItsHistory over (run_of over history) = is_history Themselves over (run_of over history) is in
    sym its.steps ∙ ap (chronicle over) (events_are over history)

-- Safety

all_follow_on : all_follow setting (reverse (take 109 events)) ≡ true
unfolding events schedule_lines event_of_line after_call may_call
all_follow_on = refl

is : IsDeployment Themselves setting (run 109)
is = is_deployment setting (reverse (take 109 events)) all_follow_on

steps : steps_of setting (run 109) ≡ after_line setting events 109
steps = steps_are setting (reverse (take 109 events)) is

none_broken : all_hold setting (seen_of (after_line setting events 109)) ≡ true
unfolding events schedule_lines event_of_line
none_broken = refl

premises : all_hold setting (seen_of (steps_of setting (run 109))) ≡ true
premises = subst (λ x. all_hold setting (seen_of x) ≡ true) (sym steps) none_broken

safe : IsSafeRun
safe =
    record {
      is = is;
      steps = steps;
      first_accepted = renewal.meets.first_accepted;
      second_accepted = renewal.meets.second_accepted;
      premises = premises;
      takes_over = renewal.takes_over;
      commits = renewal.commits;
      closes = renewal.closes;
      safe = fleet_stays_safe Themselves setting (run 109) is (fair_is_guarded setting renewal.fair)
          (all_are_more setting (seen_of (steps_of setting (run 109))) premises);
    }

rebased : AreRebased
unfolding events schedule_lines event_of_line after_call
rebased = record { first_waits = refl; second_waits = refl; first_renewed = refl; second_renewed = refl }

-- After the renewal

ends_so : reverse (take 109 events) ≡ event.Ask 3205000000 2 3205352550 ∷ reverse (take 108 events)
unfolding events schedule_lines event_of_line
ends_so = refl

steady : IsSteady setting (event.Ask 3205000000 2 3205352550 ∷ reverse (take 108 events))
steady =
    subst (IsSteady setting) ends_so
    (record {
      is = subst (IsAdmitted setting) (events_are setting (reverse (take 109 events))) (is_history Themselves setting (run 109) is).is;
      premises = all_are_more setting (seen_of (after_line setting events 109)) none_broken;
    })

renewed_there : IsRenewed (after_line setting events 108)
unfolding events schedule_lines event_of_line
renewed_there = record { renewed = ltb-true _ _ refl; unfailed = refl; uncommitted = refl }

belongs_there : belongs network (in_force setting (seen_of (after_line setting events 108))) 2 ≡ true
unfolding events schedule_lines event_of_line
belongs_there = refl

earlier : steps_of setting (run 108) ≡ after_line setting events 108
earlier = steps_are setting (reverse (take 108 events)) (subst (IsDeployment Themselves setting) (ap (run_of setting) ends_so) is).0

renewed : IsRenewedRun
renewed =
    record {
      renewed = subst IsRenewed (sym earlier) renewed_there;
      settled = subst (λ steps. IsSettledIn setting steps 3205000000 2) (sym earlier)
          (stays_settled setting (event.Ask 3205000000 2 3205352550) (reverse (take 108 events)) (fair_is_guarded setting renewal.fair) steady renewed_there 2
          belongs_there);
    }

-- The bound

abbrev lines : List Event
lines = reverse (take 89 events)

steadily : (history : List Event) → Recovers network first_plan budget (domain.Device 0) history
    → RecoversSteadily network first_plan budget (domain.Device 0) history
steadily history recovers =
    record {
      network = recovers.network;
      fits = recovers.fits;
      guarded = accepted_is_guarded network first_plan recovers.accepted;
      is = history_is_admitted under history recovers.is;
      premises = all_are_more under (seen_of (steps_under network first_plan history)) recovers.premises;
      unstaged = recovers.unstaged;
      based = recovers.based;
      held = recovers.held;
      failed = recovers.failed;
    }

recovering_follow : all_follow under (reverse (take 89 events)) ≡ true
unfolding events schedule_lines event_of_line after_call may_call
recovering_follow = refl

recovering_is : IsDeployment Themselves under recovering
recovering_is = is_deployment under lines recovering_follow

recovering_steps : steps_of under recovering ≡ steps_under network first_plan lines
recovering_steps = steps_are under lines recovering_is

recovers : RecoversSteadily network first_plan budget (domain.Device 0) (events_in recovering)
recovers =
    subst (RecoversSteadily network first_plan budget (domain.Device 0)) (sym (events_are under lines)) (steadily lines recovery.second.recovers)

-- the last report is at most the bound
below_bound : (told : Report) (steps : List Step) → steps_of under recovering ≡ steps → last_report steps ≡ Some (2, told)
    → was_counted under steps 2 ≡ true → told.eps ≤ 5048333
below_bound told [] same reported counts = cc
below_bound told (s ∷ earlier) same reported counts =
    fleet_stays_below Themselves network first_plan budget (domain.Device 0) recovering 2 5048333 [] s earlier told recovering_is recovers recovery.second.bound
    same reported counts

reported : last_report (steps_of under recovering) ≡ Some (2, report 2885262869 879413)
reported = ap last_report recovering_steps ∙ recovery.second.reported

counted : was_counted under (steps_of under recovering) 2 ≡ true
counted = ap (λ steps. was_counted under steps 2) recovering_steps ∙ recovery.second.counts

bounded : IsBoundedRun
bounded =
    record {
      is = recovering_is;
      recovers = recovers;
      bound = recovery.second.bound;
      reported = reported;
      below = below_bound (report 2885262869 879413) (steps_of under recovering) refl reported counted;
    }

-- Hearing again

abbrev mended_lines : List Event
mended_lines = reverse (take 329 mended.events)

hearing_follow : all_follow mended_under (event.Ask 7745000000 2 7745851950 ∷ mended_lines) ≡ true
unfolding mended.events after_call may_call
hearing_follow = refl

hearing_is : IsDeployment Themselves mended_under (asked ∷ hearing)
hearing_is = is_deployment mended_under (event.Ask 7745000000 2 7745851950 ∷ mended_lines) hearing_follow

still : (history : List Event) → IsUndisturbedSince mended.network mended.first_plan (domain.Link 2) 270000000 history
    → IsSteadySince mended.network mended.first_plan (domain.Link 2) 270000000 history
still history calm =
    record {
      network = is_network;
      fits = first_fits;
      guarded = accepted_is_guarded mended.network mended.first_plan second_witness.meets.first_accepted;
      is = history_is_admitted mended_under history calm.is;
      premises = all_are_more mended_under (seen_of (chronicle mended_under history)) calm.premises;
      inside = calm.inside;
      unstaged = calm.unstaged;
      unfailed = calm.unfailed;
      begun = calm.begun;
    }

still_steady : IsSteadySince mended.network mended.first_plan (domain.Link 2) 270000000 (events_in (asked ∷ hearing))
still_steady =
    subst (IsSteadySince mended.network mended.first_plan (domain.Link 2) 270000000)
    (sym (events_are mended_under (event.Ask 7745000000 2 7745851950 ∷ mended_lines)))
    (still (event.Ask 7745000000 2 7745851950 ∷ mended_lines) second_witness.hears.undisturbed)

counted_there : is_counted mended_under (seen_of (chronicle mended_under mended_lines)) 2 ≡ true
unfolding mended.events
counted_there = refl

hearing_counted : is_counted mended_under (seen_of (steps_of mended_under hearing)) 2 ≡ true
hearing_counted =
    subst (λ steps. is_counted mended_under (seen_of steps) 2 ≡ true) (sym (steps_are mended_under mended_lines hearing_is.0)) counted_there

rebased_there : option_map (λ kept. kept.since) (struct_in hearing 2) ≡ Some 7200792000
unfolding mended.events after_call
rebased_there = refl

hears : IsHearingRun
hears =
    record {
      is = hearing_is;
      steady = still_steady;
      bound = second_witness.hears.bound;
      late = second_witness.hears.late;
      rebased = rebased_there;
      served = fleet_hears_again Themselves mended.network mended.first_plan (domain.Link 2) hearing asked budget 2 5048333 270000000 hearing_is still_steady
          second_witness.hears.bound hearing_counted second_witness.hears.late;
    }

-- After a renewal

abbrev hit_lines : List Event
hit_lines = after_renewal.first_events 325

hit_follow : all_follow mended.setting (after_renewal.first_events 325) ≡ true
unfolding after_renewal.events after_call may_call
hit_follow = refl

hit_is : IsDeployment Themselves mended.setting hit
hit_is = is_deployment mended.setting hit_lines hit_follow

hit_steps : steps_of mended.setting hit ≡ after 325
hit_steps = steps_are mended.setting hit_lines hit_is

rebased_waiting : option_map (λ kept. kept.since) (struct_in (run_of mended.setting (after_renewal.first_events 127)) 1) ≡ Some 2879827200
unfolding after_renewal.events after_call
rebased_waiting = refl

first_rebased : option_map (λ kept. kept.since) (struct_in hit 1) ≡ Some 7919524800
unfolding after_renewal.events after_call
first_rebased = refl

second_rebased : option_map (λ kept. kept.since) (struct_in hit 2) ≡ Some 7920871200
unfolding after_renewal.events after_call
second_rebased = refl

hit_run : IsHitRun
hit_run =
    record {
      is = hit_is;
      steps = hit_steps;
      rebased_waiting = rebased_waiting;
      first_rebased = first_rebased;
      second_rebased = second_rebased;
      applies = after_renewal_holds;
      safe = fleet_stays_safe Themselves mended.setting hit hit_is (fair_is_guarded mended.setting fair)
          (subst (λ steps. IsTrue (all_but_start_hold mended.setting (seen_of steps))) (sym hit_steps)
          (all_are_more mended.setting (seen_of (after 325)) after_renewal_holds.meets.premises));
    }

pub is_witness : IsWitness
is_witness = record { safe = safe; rebased = rebased; renewed = renewed; bounded = bounded; hearing = hears; hit = hit_run }

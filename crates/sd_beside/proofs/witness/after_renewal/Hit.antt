-- Each lemma on plans that a renewal brought in applies to the fourth witness: the renewal closes, the root fails, the backup root takes over, and all hear
-- again.
use Rattle.std.specs.Prelude.{◌≡◌, ◌+◌, ◌-◌, ◌<◌, ◌≤◌, Bool, true, false, List, ◌∷◌, length, Some, IsTrue, refl}
use Rattle.std.proofs.Common.{subst, sym}
use Rattle.std.proofs.lemmas.Bool.{leb-true, ltb-true}
use Rattle.sd_plan.specs.declared.Plan.{Plan}
use Rattle.sd_plan.specs.topo.Network.{rates_of}
use Rattle.sd_drill.specs.recovery.Walks.{halves}
use Rattle.sd_drill.specs.ages.Ages.{IsOldest}
use Rattle.sd_drill.specs.Drill.{IsWorst, quiet}
use Rattle.sd_device.specs.Calls.{Past}
use Rattle.sd_device.specs.Words.{estimate_now}
use Rattle.sd_sched.specs.declared.Event.{Event}
use Rattle.sd_sched.specs.declared.Event.TheVariants as event
use Rattle.sd_history.specs.World.{in_force}
use Rattle.sd_history.specs.Steps.{seen_of, acts_in}
use Rattle.sd_history.specs.Chronicle.{chronicle, past_in}
use Rattle.sd_history.specs.Premises.{all_hold}
use Rattle.sd_history.proofs.Admitted.{history_is_admitted}
use Rattle.sd_safety.specs.invariant.Eras.{belongs}
use Rattle.sd_safety.specs.invariant.Guarded.{AreGuarded, IsSteady}
use Rattle.sd_safety.proofs.invariant.Parts.{all_are_more, fair_is_guarded}
use Rattle.sd_bound.specs.Halves.{IsBased, IsCovered}
use Rattle.sd_bound.specs.Hearing.{recovery}
use Rattle.sd_bound.specs.ages.Sums.{lag}
use Rattle.sd_bound.specs.Renewed.{IsRenewed}
use Rattle.sd_bound.specs.RenewedBound.{IsHitRenewed}
use Rattle.sd_bound.specs.RenewedBases.{IsBudgeted}
use Rattle.sd_bound.proofs.Bounded.{worst_covers}
use Rattle.sd_bound.proofs.Renewed.{stays_settled, reports_age_little}
use Rattle.sd_bound.proofs.RenewedBound.{hears_again_renewed, ages_hold_renewed, bound_holds_renewed}
use Rattle.sd_bound.proofs.rebased.Bases.{bases_hold_renewed, drill_holds_renewed}
use Rattle.sd_beside.specs.witness.Shared.{budget, hop}
use Rattle.sd_beside.specs.witness.mended.Values.{network, second_plan, setting}
use Rattle.sd_beside.specs.witness.after_renewal.Values.{events, first_events}
use Rattle.sd_beside.specs.witness.after_renewal.Witness.{after, seen, asked, MeetsAll, TakesOver, AgesLittle, AreHit, HoldAgain, IsAfterRenewal}
use Rattle.sd_beside.proofs.witness.Accepting.{fed_by}
use Rattle.sd_beside.proofs.witness.Greatest.{one_greatest, oldest_at}
use Rattle.sd_beside.proofs.witness.Histories.{are_accepted, is_history}
use Rattle.sd_beside.proofs.witness.Recovered.{fault}
use Rattle.sd_beside.proofs.witness.mended.Mended.{fair, mended}
use Rattle.sd_beside.proofs.witness.mended.Read.{second_fits}

guarded : AreGuarded setting
guarded = fair_is_guarded setting fair

-- the histories are steady

steady : (history : List Event) → are_accepted setting history ≡ true → all_hold setting (seen_of (chronicle setting history)) ≡ true
    → IsSteady setting history
steady history accepted premises =
    record {
      is = history_is_admitted setting history (is_history setting history accepted);
      premises = all_are_more setting (seen_of (chronicle setting history)) premises;
    }

accepted : are_accepted setting (first_events 325) ≡ true
unfolding events
accepted = refl

meets : MeetsAll
unfolding events
meets =
    record {
      count = refl;
      first_accepted = mended.meets.first_accepted;
      second_accepted = mended.meets.second_accepted;
      history = is_history setting (first_events 325) accepted;
      premises = refl;
    }

takes_over : TakesOver
unfolding events
takes_over =
    record {
      open_still = refl;
      closed = refl;
      root_acts = refl;
      root_fails = refl;
      nobody_acts = refl;
      backup_root_acts = refl;
      on_primary = refl;
      on_backup = refl;
      reported = refl;
    }

-- Before the failure

abbrev asked_before : Event
asked_before = event.Ask 370000000 2 370040700

steady_before : IsSteady setting (asked_before ∷ first_events 38)
unfolding events
steady_before = steady (asked_before ∷ first_events 38) refl refl

renewed : IsRenewed (after 38)
unfolding events
renewed = record { renewed = ltb-true _ _ refl; unfailed = refl; uncommitted = refl }

force_before : in_force setting (seen 38) ≡ second_plan
unfolding events
force_before = refl

belongs_before : IsTrue (belongs network (in_force setting (seen 38)) 2)
belongs_before = subst (λ (plan : Plan). IsTrue (belongs network plan 2)) (sym force_before) refl

oldest_before : IsOldest (rates_of network 2) (lag network) 572178436
oldest_before = oldest_at network 2 (lag network) 572178436 refl (leb-true _ _ refl) (ltb-true _ _ refl)

ages : AgesLittle
unfolding events
ages =
    record {
      renewed = renewed;
      past = refl;
      oldest = oldest_before;
      settled = stays_settled setting asked_before (first_events 38) guarded steady_before renewed 2 belongs_before;
      little = λ past is. reports_age_little setting 370000000 2 370040700 (first_events 38) past guarded steady_before renewed belongs_before refl is
          572178436 oldest_before;
    }

-- After it

steady_after : IsSteady setting (asked ∷ first_events 323)
unfolding events
steady_after = steady (asked ∷ first_events 323) refl refl

bound : IsWorst network second_plan budget fault 2 5048333
bound =
    record {
      fed = fed_by network second_plan fault 4 2 refl;
      far = 300000;
      is_far = one_greatest network second_plan second_fits fault refl 2 (halves network 2) 300000 (hop 0 2) refl refl (leb-true _ _ refl) refl;
      long = 1;
      is_long = one_greatest network second_plan second_fits fault refl 2 length 1 (hop 0 2) refl refl (leb-true _ _ refl) refl;
      short_enough = leb-true _ _ refl;
      oldest = 9726662077;
      is_oldest = oldest_at network 2 (quiet network second_plan 1) 9726662077 refl (leb-true _ _ refl) (ltb-true _ _ refl);
      sum = refl;
    }

inside : IsHitRenewed setting fault (after 323)
unfolding events
inside = record { renewed = ltb-true _ _ refl; shut = refl; inside = refl }

hit : AreHit
unfolding events
hit =
    record {
      force = refl;
      bound = bound;
      counts = refl;
      follows = refl;
      past = refl;
      since = record { hit = inside; closed = refl; unfailed = refl };
      late = ltb-true _ _ refl;
      once = record { hit = inside; once = refl };
      budgeted = record { based = refl; held = refl; commits = refl };
    }

budgeted_before : IsBudgeted budget (after 323)
unfolding events
budgeted_before = record { based = refl; held = refl; commits = refl }

bound_there : IsWorst network (in_force setting (seen 323)) budget fault 2 5048333
bound_there = subst (λ (plan : Plan). IsWorst network plan budget fault 2 5048333) (sym hit.force) bound

late_there : 375000000 + recovery network (in_force setting (seen 323)) < 7925000000
late_there = subst (λ (plan : Plan). 375000000 + recovery network plan < 7925000000) (sym hit.force) hit.late

covered_there : IsCovered network (in_force setting (seen 323)) fault 2 300000 9726662077
unfolding bound
covered_there =
    subst (λ (plan : Plan). IsCovered network plan fault 2 300000 9726662077) (sym hit.force) (worst_covers network second_plan budget fault 2 5048333 bound)

based_there : (past : Past) → past_in (after 323) 2 ≡ Some past
    → IsBased network (in_force setting (seen 323)) budget fault (after 323) 2 (estimate_now past).base
based_there past is = bases_hold_renewed setting budget fault asked (first_events 323) 2 past guarded steady_after budgeted_before inside hit.counts is

-- device 2 does not act, so nothing is asked of how long it held its estimate
held_so : (past : Past) → acts_in (after 323) 2 ≡ true → 7925871750 - (estimate_now past).at ≤ budget.hold
held_so past acts = absurd (apart (acts_in (after 323) 2) acts hit.follows)
  where
    apart : (b : Bool) → b ≡ true → b ≡ false → ⊥
    apart true is not_is = cc
    apart false is not_is = cc

holds : HoldAgain
holds =
    record {
      served = hears_again_renewed setting fault 375000000 asked (first_events 323) guarded steady_after hit.since budget 2 5048333 bound_there hit.counts
          late_there;
      aged = λ past is. ages_hold_renewed setting fault 375000000 7925000000 2 7925871750 (first_events 323) past guarded steady_after hit.once hit.counts is
          hit.follows 300000 9726662077 covered_there;
      based = λ past is. subst (λ (plan : Plan). IsBased network plan budget fault (after 323) 2 (estimate_now past).base) hit.force (based_there past is);
      below = λ past is. drill_holds_renewed setting budget fault 375000000 7925000000 2 7925871750 (first_events 323) past guarded steady_after hit.budgeted
          hit.once hit.counts is 5048333 bound_there;
      below_so = λ past is. bound_holds_renewed setting budget fault 375000000 7925000000 2 7925871750 (first_events 323) past guarded steady_after hit.once
          hit.counts is (held_so past) (based_there past is) 5048333 bound_there;
    }

pub after_renewal : IsAfterRenewal
after_renewal = record { meets = meets; takes_over = takes_over; ages = ages; hit = hit; holds = holds }

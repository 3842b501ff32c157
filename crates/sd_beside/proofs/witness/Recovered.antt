-- The first 89 lines of the schedule are a history to which the bound of the drill applies, and its reports are below their bounds.
use Rattle.std.specs.Prelude.{◌≡◌, ℕ, ◌≤◌, Bool, true, ◌&&◌, List, [], ◌∷◌, length, nat_eq, reverse, take, Some, IsTrue, refl}
use Rattle.std.specs.List.{list_any, list_all}
use Rattle.std.proofs.Common.{subst, sym, ap, eq-eqb, eqb-true, arith, inr}
use Rattle.std.proofs.lemmas.Bool.{leb-true, ltb-true}
use Rattle.sd_plan.specs.declared.topo.Thing.{Thing}
use Rattle.sd_plan.specs.declared.topo.Thing.TheVariants as thing
use Rattle.sd_plan.specs.domain.Domains.{holds}
use Rattle.sd_plan.specs.domain.Things.{same_thing}
use Rattle.sd_plan.specs.declared.domain.DomainId.{DomainId}
use Rattle.sd_plan.specs.declared.domain.DomainId.TheVariants as domain
use Rattle.sd_plan.specs.declared.Hop.{Hop}
use Rattle.sd_drill.specs.recovery.Walks.{halves, IsWalk, IsGreatestOfWalks}
use Rattle.sd_drill.specs.Drill.{IsWorst, quiet}
use Rattle.sd_num.specs.declared.clock.Report.{Report}
use Rattle.sd_sched.specs.Lines.{event_of_line}
use Rattle.sd_sched.specs.declared.Event.{Event}
use Rattle.sd_history.specs.World.{Setting, Seen, alone}
use Rattle.sd_history.specs.Steps.{Step, seen_of}
use Rattle.sd_history.specs.Premises.{all_hold}
use Rattle.sd_history.specs.Lines.{roots}
use Rattle.sd_bound.specs.Bound.{no_stage, within_base, within_hold, failures, FailsAtOnce, FailsSo}
use Rattle.sd_bound.specs.Recovering.{Recovers, steps_under}
use Rattle.sd_bound.proofs.Bounded.{bound_holds}
use Rattle.sd_beside.specs.witness.Texts.{schedule_lines}
use Rattle.sd_beside.specs.witness.Schedules.{after_line}
use Rattle.sd_beside.specs.witness.Shared.{budget, hop, last_report, was_counted, report}
use Rattle.sd_beside.specs.witness.Values.{network, first_plan, events}
use Rattle.sd_beside.specs.witness.Witnesses.{IsBounded, IsRecovery}
use Rattle.sd_beside.proofs.witness.Accepting.{fed_by}
use Rattle.sd_beside.proofs.witness.Greatest.{one_greatest, oldest_at}
use Rattle.sd_beside.proofs.witness.Histories.{are_accepted, is_history}
use Rattle.sd_beside.proofs.witness.Read.{is_network, first_fits}
use Rattle.sd_beside.proofs.witness.Renewed.{first_accepted}

abbrev pub fault : DomainId
fault = domain.Device 0

abbrev pub under : Setting
under = alone network first_plan

-- What fails

-- the thing is among those that failed, and all of those are of the domain and failed at this reference
abbrev failed_among : List (Thing × ℕ) → Thing → Bool
failed_among fs x = list_any (λ (y : Thing × ℕ). same_thing x y.0) fs

abbrev failed_only : ℕ → List (Thing × ℕ) → Bool
failed_only reference fs = list_all (λ (y : Thing × ℕ). holds network fault y.0 && nat_eq y.1 reference) fs

-- where device 0 is all that failed, its domain did so
fails_alone : (seen : List Seen) (reference : ℕ) → failures seen ≡ (thing.Device 0, reference) ∷ [] → FailsAtOnce network fault seen reference
fails_alone seen reference is =
    record {
      all = λ x has. subst (λ (fs : List (Thing × ℕ)). IsTrue (failed_among fs x)) (sym is) (found x has);
      only = subst (λ (fs : List (Thing × ℕ)). IsTrue (failed_only reference fs)) (sym is) (same reference);
    }
  where
    found : (x : Thing) → IsTrue (holds network fault x) → IsTrue (failed_among ((thing.Device 0, reference) ∷ []) x)
    found (thing.Device d) has = subst (λ (e : ℕ). IsTrue (failed_among ((thing.Device 0, reference) ∷ []) (thing.Device e))) (eqb-true 0 d has) refl
    found (thing.Link l) has = cc

    same : (n : ℕ) → IsTrue (failed_only n ((thing.Device 0, n) ∷ []))
    same n = rw (eq-eqb n n refl) refl

-- Bounds

-- walks of the backup root have no hop
at_home : (hs : List Hop) → IsWalk network first_plan fault 1 hs → hs ≡ []
at_home [] walked = refl
at_home (h ∷ hs) walked = cc

none_greatest : (measure : List Hop → ℕ) → measure [] ≡ 0 → IsGreatestOfWalks network first_plan fault 1 measure 0
none_greatest measure zero_is =
    record {
      hops = [];
      has = refl;
      reached = zero_is;
      greatest = λ others walked. let same = ap measure (at_home others walked) in omega (arith, same, zero_is);
    }

first_bound : IsWorst network first_plan budget fault 1 4515461
first_bound =
    record {
      fed = fed_by network first_plan fault 3 1 refl;
      far = 0;
      is_far = none_greatest (halves network 1) refl;
      long = 0;
      is_long = none_greatest length refl;
      short_enough = leb-true _ _ refl;
      oldest = 8562303205;
      is_oldest = oldest_at network 1 (quiet network first_plan 0) 8562303205 refl (leb-true _ _ refl) (ltb-true _ _ refl);
      sum = refl;
    }

second_bound : IsWorst network first_plan budget fault 2 5048333
second_bound =
    record {
      fed = fed_by network first_plan fault 3 2 refl;
      far = 300000;
      is_far = one_greatest network first_plan first_fits fault refl 2 (halves network 2) 300000 (hop 0 2) refl refl (leb-true _ _ refl) refl;
      long = 1;
      is_long = one_greatest network first_plan first_fits fault refl 2 length 1 (hop 0 2) refl refl (leb-true _ _ refl) refl;
      short_enough = leb-true _ _ refl;
      oldest = 9726662077;
      is_oldest = oldest_at network 2 (quiet network first_plan 1) 9726662077 refl (leb-true _ _ refl) (ltb-true _ _ refl);
      sum = refl;
    }

-- Reports

-- the last report of a history that recovers is at most the bound
below_bound : (f : DomainId) (d : ℕ) (told : Report) (w : ℕ) (history : List Event) → Recovers network first_plan budget f history
    → IsWorst network first_plan budget f d w
    → last_report (steps_under network first_plan history) ≡ Some (d, told)
    → was_counted (alone network first_plan) (steps_under network first_plan history) d ≡ true → told.eps ≤ w
below_bound f d told w history recovers worst reported counts = by (steps_under network first_plan history) refl reported counts
  where
    by : (steps : List Step) → steps_under network first_plan history ≡ steps → last_report steps ≡ Some (d, told)
        → was_counted (alone network first_plan) steps d ≡ true → told.eps ≤ w
    by [] is reported counts = cc
    by (s ∷ earlier) is reported counts =
        bound_holds network first_plan budget f recovers.network recovers.fits recovers.accepted d w worst [] history [] s earlier told recovers.is is
        (subst (λ (steps : List Step). IsTrue (all_hold (alone network first_plan) (seen_of steps))) is recovers.premises)
        (subst (λ (steps : List Step). IsTrue (no_stage (seen_of steps))) is recovers.unstaged)
        (subst (λ (steps : List Step). IsTrue (within_base budget (seen_of steps))) is recovers.based)
        (subst (λ (steps : List Step). IsTrue (within_hold budget steps)) is recovers.held)
        (subst (λ (steps : List Step). FailsSo network f (seen_of steps)) is recovers.failed) reported counts

-- what computes of a history
record Computes (history : List Event) : Type 0 where
  accepted : are_accepted under history ≡ true
  premises : all_hold under (seen_of (steps_under network first_plan history)) ≡ true
  unstaged : no_stage (seen_of (steps_under network first_plan history)) ≡ true
  based : within_base budget (seen_of (steps_under network first_plan history)) ≡ true
  held : within_hold budget (steps_under network first_plan history) ≡ true
  failures : failures (seen_of (steps_under network first_plan history)) ≡ (thing.Device 0, 270000000) ∷ []

fails_once : (history : List Event) → Computes history → FailsAtOnce network fault (seen_of (steps_under network first_plan history)) 270000000
fails_once history computes = fails_alone (seen_of (steps_under network first_plan history)) 270000000 computes.failures

recovers : (history : List Event) → Computes history → Recovers network first_plan budget fault history
recovers history computes =
    record {
      network = is_network;
      fits = first_fits;
      accepted = first_accepted;
      is = is_history under history computes.accepted;
      premises = computes.premises;
      unstaged = computes.unstaged;
      based = computes.based;
      held = computes.held;
      failed = inr (270000000, fails_once history computes);
    }

bounded : (d : ℕ) (told : Report) (w : ℕ) (history : List Event) → Computes history → IsWorst network first_plan budget fault d w
    → last_report (steps_under network first_plan history) ≡ Some (d, told) → was_counted under (steps_under network first_plan history) d ≡ true
    → IsBounded network first_plan budget fault d told w history
bounded d told w history computes worst reported counts =
    record {
      recovers = recovers history computes;
      reference = 270000000;
      fails = fails_once history computes;
      bound = worst;
      reported = reported;
      counts = counts;
      below = below_bound fault d told w history (recovers history computes) worst reported counts;
    }

-- The two histories

first_computes : Computes (reverse (take 88 events))
unfolding events schedule_lines event_of_line
first_computes = record { accepted = refl; premises = refl; unstaged = refl; based = refl; held = refl; failures = refl }

second_computes : Computes (reverse (take 89 events))
unfolding events schedule_lines event_of_line
second_computes = record { accepted = refl; premises = refl; unstaged = refl; based = refl; held = refl; failures = refl }

first_report : last_report (steps_under network first_plan (reverse (take 88 events))) ≡ Some (1, report 2884989733 879359)
unfolding events schedule_lines event_of_line
first_report = refl

first_counts : was_counted under (steps_under network first_plan (reverse (take 88 events))) 1 ≡ true
unfolding events schedule_lines event_of_line
first_counts = refl

second_report : last_report (steps_under network first_plan (reverse (take 89 events))) ≡ Some (2, report 2885262869 879413)
unfolding events schedule_lines event_of_line
second_report = refl

second_counts : was_counted under (steps_under network first_plan (reverse (take 89 events))) 2 ≡ true
unfolding events schedule_lines event_of_line
second_counts = refl

root_acts : roots under (after_line under events 19) ≡ 0 ∷ []
unfolding events schedule_lines event_of_line
root_acts = refl

nobody_acts : roots under (after_line under events 20) ≡ []
unfolding events schedule_lines event_of_line
nobody_acts = refl

backup_root_acts : roots under (after_line under events 85) ≡ 1 ∷ []
unfolding events schedule_lines event_of_line
backup_root_acts = refl

pub recovery : IsRecovery events
recovery =
    record {
      root_acts = root_acts;
      nobody_acts = nobody_acts;
      backup_root_acts = backup_root_acts;
      first = bounded 1 (report 2884989733 879359) 4515461 (reverse (take 88 events)) first_computes first_bound first_report first_counts;
      second = bounded 2 (report 2885262869 879413) 5048333 (reverse (take 89 events)) second_computes second_bound second_report second_counts;
    }

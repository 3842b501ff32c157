-- The texts of the second witness say a history to which the theorems on safety and on hearing again apply: a link fails, the device below it moves, the root
-- is fixed, and a renewal mends the link and lets a device join.
use Rattle.std.specs.Prelude.{◌≡◌, ◌+◌, ◌-◌, ◌<◌, true, ◌∷◌, length, reverse, take, refl}
use Rattle.std.proofs.Common.{arith}
use Rattle.std.proofs.lemmas.Bool.{leb-true, ltb-true}
use Rattle.sd_plan.specs.declared.domain.DomainId.{DomainId}
use Rattle.sd_plan.specs.declared.domain.DomainId.TheVariants as domain
use Rattle.sd_plan.specs.Plans.{Fits}
use Rattle.sd_checker.specs.check_root.Timing.{silence}
use Rattle.sd_checker.specs.Conditions.{IsAccepted}
use Rattle.sd_drill.specs.recovery.Walks.{halves}
use Rattle.sd_drill.specs.Drill.{IsWorst, quiet}
use Rattle.sd_sched.specs.declared.Event.TheVariants as event
use Rattle.sd_history.specs.World.{Setting, alone, is_counted}
use Rattle.sd_history.specs.Steps.{seen_of}
use Rattle.sd_safety.specs.invariant.Coming.{IsFair}
use Rattle.sd_bound.specs.Recovering.{steps_under}
use Rattle.sd_bound.specs.Hearing.{IsUndisturbedSince, IsServed, recovery}
use Rattle.sd_safety.proofs.whole.Safe.{stays_safe}
use Rattle.sd_bound.proofs.Hearing.{hears_again}
use Rattle.sd_beside.specs.witness.Shared.{budget, hop}
use Rattle.sd_beside.specs.witness.mended.Values.{network, first_plan, second_plan, setting, events}
use Rattle.sd_beside.specs.witness.mended.Witness.{MeetsAll, Moves, HearsAgain, Renews, IsMended}
use Rattle.sd_beside.proofs.witness.Accepting.{accepted_by, fed_by}
use Rattle.sd_beside.proofs.witness.Greatest.{one_greatest, oldest_at}
use Rattle.sd_beside.proofs.witness.Histories.{each_of_two, are_accepted, is_history}
use Rattle.sd_beside.proofs.witness.mended.Read.{texts_say, is_network, first_fits, second_fits}

first_accepted : IsAccepted network first_plan
first_accepted = accepted_by network first_plan first_fits refl

second_accepted : IsAccepted network second_plan
second_accepted = accepted_by network second_plan second_fits refl

accepted : are_accepted setting (reverse events) ≡ true
unfolding events
accepted = refl

meets : MeetsAll events
unfolding events
meets =
    record {
      count = refl;
      first_accepted = first_accepted;
      second_accepted = second_accepted;
      history = is_history setting (reverse events) accepted;
      premises = refl;
    }

moves : Moves events
unfolding events
moves = record { on_primary = refl; link_fails = refl; round_lost = refl; on_primary_still = refl; on_backup = refl }

-- Hearing again

abbrev fault : DomainId
fault = domain.Link 2

abbrev pub under : Setting
under = alone network first_plan

bound : IsWorst network first_plan budget fault 2 5048333
bound =
    record {
      fed = fed_by network first_plan fault 4 2 refl;
      far = 300000;
      is_far = one_greatest network first_plan first_fits fault refl 2 (halves network 2) 300000 (hop 0 2) refl refl (leb-true _ _ refl) refl;
      long = 1;
      is_long = one_greatest network first_plan first_fits fault refl 2 length 1 (hop 0 2) refl refl (leb-true _ _ refl) refl;
      short_enough = leb-true _ _ refl;
      oldest = 9726662077;
      is_oldest = oldest_at network 2 (quiet network first_plan 1) 9726662077 refl (leb-true _ _ refl) (ltb-true _ _ refl);
      sum = refl;
    }

accepted_alone : are_accepted under (event.Ask 7745000000 2 7745851950 ∷ reverse (take 329 events)) ≡ true
unfolding events
accepted_alone = refl

undisturbed : IsUndisturbedSince network first_plan fault 270000000 (event.Ask 7745000000 2 7745851950 ∷ reverse (take 329 events))
unfolding events
undisturbed =
    record {
      is = is_history under (event.Ask 7745000000 2 7745851950 ∷ reverse (take 329 events)) accepted_alone;
      premises = refl;
      inside = refl;
      unstaged = refl;
      unfailed = refl;
      begun = refl;
    }

late : 270000000 + recovery network first_plan < 7745000000
late = ltb-true _ _ refl

counted : is_counted under (seen_of (steps_under network first_plan (reverse (take 329 events)))) 2 ≡ true
unfolding events
counted = refl

served : IsServed (steps_under network first_plan (reverse (take 329 events))) 2 270000000 (7745000000 - silence network)
served =
    hears_again network first_plan fault is_network first_fits first_accepted budget 2 5048333 bound 270000000 (event.Ask 7745000000 2 7745851950)
    (reverse (take 329 events)) undisturbed counted late

hears : HearsAgain events
unfolding events
hears = record { bound = bound; undisturbed = undisturbed; late = late; served = served; reported = refl; counts = refl }

-- The renewal

renews : Renews events
unfolding events
renews =
    record {
      staged = refl;
      mended = refl;
      not_joined = refl;
      joined = refl;
      committed = refl;
      on_backup = refl;
      back_on_primary = refl;
      entered = refl;
      open_still = refl;
      closed = refl;
      moved_reports = refl;
      joined_reports = refl;
    }

pub fair : IsFair setting
fair =
    record {
      network = is_network;
      some_plan = omega arith;
      fit = each_of_two (Fits network) first_plan second_plan first_fits second_fits;
      accepted = each_of_two (IsAccepted network) first_plan second_plan first_accepted second_accepted;
    }

pub mended : IsMended events
mended =
    record {
      says = texts_say;
      meets = meets;
      moves = moves;
      hears = hears;
      renews = renews;
      safe = stays_safe setting (reverse events) fair (record { is = meets.history; premises = meets.premises });
    }

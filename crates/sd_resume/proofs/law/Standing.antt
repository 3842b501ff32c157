-- Where a history stands for a longer one, it goes on so: all later events are as after the longer one, and no more breaks.
use Rattle.std.specs.Prelude.{◌≡◌, Bool, true, false, ◌&&◌, not, List, ◌∷◌, ◌++◌, map, refl}
use Rattle.sd_plan.specs.topo.Network.{Network}
use Rattle.sd_plan.specs.declared.Plan.{Plan}
use Rattle.sd_sched.specs.declared.Event.{Event}
use Rattle.sd_history.specs.World.{Setting, setting_over}
use Rattle.sd_history.specs.Steps.{seen_of}
use Rattle.sd_history.specs.Chronicle.{chronicle}
use Rattle.sd_history.specs.Admitted.{IsAdmitted}
use Rattle.sd_safety.specs.invariant.Coming.{IsFair}
use Rattle.sd_resume.specs.law.Shifts.{Shift, raised_event}
use Rattle.sd_resume.specs.law.Law.{whole, AllMayFollow, NoMoreBroken, BreaksNoMore, LeavesBroken, GoesOnAs}
use Rattle.sd_resume.specs.law.Composed.{StandsForWhole}
use Rattle.sd_resume.proofs.law.Calm.{stays_calm}
use Rattle.sd_resume.proofs.law.Laws.{resumed, resumed_back, breaks_in_both, loses_in_both}
use Rattle.sd_resume.proofs.law.Losing.{loss_on}

-- what breaks in a part is broken in the whole, if what holds in the whole holds in the part
broken_there : (whole_holds part_holds before : Bool) → (whole_holds ≡ true → part_holds ≡ true) → (not part_holds && not before) ≡ true → not whole_holds ≡ true
broken_there false part_holds before on broke = refl
broken_there true true before on broke = cc
broken_there true false before on broke =
    let holds : false ≡ true = on refl in
    cc

module _ (shift : Shift) (net : Network) (front plans : List Plan) (one other : List Event) (stands : StandsForWhole shift net front plans one other) where
  abbrev longer : Setting
  longer = whole net front plans

  abbrev part : Setting
  part = setting_over net plans

  -- with later events
  pub stands_on : (later : List Event) → AllMayFollow part other later → IsAdmitted part (later ++ other)
      → StandsForWhole shift net front plans (map (raised_event shift) later ++ one) (later ++ other)
  stands_on later may admitted =
      record {
        agree = (resumed shift net front plans one other stands.agree later may admitted).agree;
        premises = breaks_in_both shift net front plans one other stands.agree stands.premises later may admitted;
        losses = loses_in_both shift net front plans one other stands.agree stands.losses later may admitted;
      }

  -- What breaks after the second breaks in the whole.
  pub no_more_breaks : BreaksNoMore shift longer part one other
  no_more_breaks later may admitted =
      let on : StandsForWhole shift net front plans (map (raised_event shift) later ++ one) (later ++ other) = stands_on later may admitted in
      record {
        start = on.premises.start;
        drift = on.premises.drift;
        delay = on.premises.delay;
        tick = on.premises.tick;
        loss = loss_on shift (seen_of (chronicle longer (map (raised_event shift) later ++ one))) (seen_of (chronicle part (later ++ other))) on.losses.flights
            longer part refl;
        domain = on.premises.domain;
        renew = on.premises.renew;
      }

  -- A later event that breaks a premise after the second leaves it broken in the whole.
  pub stays_broken : LeavesBroken shift longer part one other
  stays_broken e later may admitted =
      let more : NoMoreBroken longer part (seen_of (chronicle longer (raised_event shift e ∷ (map (raised_event shift) later ++ one))))
      (seen_of (chronicle part (e ∷ (later ++ other)))) = no_more_breaks (e ∷ later) may admitted in
      record {
        start = broken_there _ _ _ more.start;
        drift = broken_there _ _ _ more.drift;
        delay = broken_there _ _ _ more.delay;
        tick = broken_there _ _ _ more.tick;
        loss = broken_there _ _ _ more.loss;
        domain = broken_there _ _ _ more.domain;
        renew = broken_there _ _ _ more.renew;
      }

  -- All that holds of later events.
  pub goes_on_as : IsFair part → GoesOnAs shift net front plans one other
  goes_on_as fair =
      record {
        admitted = λ later may admitted. (resumed shift net front plans one other stands.agree later may admitted).admitted;
        admitted_back = λ later may admitted. resumed_back shift net front plans one other stands.agree later may admitted;
        says = λ later may admitted. (resumed shift net front plans one other stands.agree later may admitted).says;
        breaks = no_more_breaks;
        leaves = stays_broken;
        calm = stays_calm shift net front plans one other stands.agree fair;
      }

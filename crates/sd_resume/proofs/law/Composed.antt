-- The result on openings of openings: standing composes, and so do openings.
use Rattle.std.specs.Prelude.{List, ◌++◌}
use Rattle.std.proofs.Common.{subst}
use Rattle.sd_plan.specs.topo.Network.{Network}
use Rattle.sd_sched.specs.declared.Event.{Event}
use Rattle.sd_device.specs.contracts.device.DeviceNode.TheImpl.{ghosts as device}
use Rattle.sd_history.specs.World.{setting_over}
use Rattle.sd_history.specs.Steps.{events_of}
use Rattle.sd_history.specs.Nodes.{steps_of}
use Rattle.sd_history.specs.Admitted.{IsAdmitted}
use Rattle.sd_history.proofs.Admitted.{run_is_admitted}
use Rattle.sd_history.proofs.Devices.{admitted_devices_have_history}
use Rattle.sd_resume.specs.law.Composed.{joined_shift, StandsForWhole, StandingComposes, OpeningsCompose}
use Rattle.sd_resume.proofs.law.Standing.{goes_on_as, stands_on}
use Rattle.sd_resume.proofs.law.Composing.{standing_joined}
use Rattle.sd_resume.proofs.law.Resume.{stands}

pub standing_composes : (net : Network) → StandingComposes net
standing_composes net =
    record {
      goes_on = λ shift front plans one other stands_ fair. goes_on_as shift net front plans one other stands_ fair;
      later = λ shift front plans one other stands_ later may admitted. stands_on shift net front plans one other stands_ later may admitted;
      joined = λ outer inner front middle plans one two three o i. standing_joined outer inner net front middle plans one two three o i;
    }

pub openings_compose : (net : Network) → OpeningsCompose net
openings_compose net =
    record {
      stands = λ shift front plans first second is honest. stands shift net front plans first second is honest;
      composed = λ outer inner front middle plans first second third fourth later opens honest may happened opens_again honest_again fair.
          (let admitted : IsAdmitted (setting_over net (middle ++ plans)) (later ++ events_of (steps_of second)) =
          subst (IsAdmitted (setting_over net (middle ++ plans))) happened
          (admitted_devices_have_history (setting_over net (middle ++ plans)) third
          (run_is_admitted device (setting_over net (middle ++ plans)) third opens_again.first_runs)) in
          goes_on_as (joined_shift outer inner) net (front ++ middle) plans _ (events_of (steps_of fourth))
          (standing_joined outer inner net front middle plans _ (later ++ events_of (steps_of second)) (events_of (steps_of fourth))
          (stands_on outer net front (middle ++ plans) (events_of (steps_of first)) (events_of (steps_of second))
          (stands outer net front (middle ++ plans) first second opens honest) later may admitted)
          (subst (λ (es : List Event). StandsForWhole inner net middle plans es (events_of (steps_of fourth))) happened
          (stands inner net middle plans third fourth opens_again honest_again)))
          fair);
    }

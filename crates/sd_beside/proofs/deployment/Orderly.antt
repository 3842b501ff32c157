-- What the rules admit keeps the order that whoever runs a fabric owes.
use Rattle.std.specs.Prelude.{List, ◌∷◌}
use Rattle.sd_sched.specs.declared.Event.{Event}
use Rattle.sd_history.specs.World.{Setting}
use Rattle.sd_history.specs.Steps.{Step}
use Rattle.sd_history.specs.Admitted.{Admits}
use Rattle.sd_history.proofs.Among.{Among, later}
use Rattle.sd_history.proofs.Clear.{clear}
use Rattle.sd_beside.specs.deployment.Deployment.{IsOrderly}

pub orderly_of : (setting : Setting) (steps : List Step) (e : Event) → Admits setting steps e → IsOrderly setting steps e
orderly_of setting steps e admits =
    record {
      device = (clear setting steps e admits).device_known;
      link = (clear setting steps e admits).link_known;
      device_works = (clear setting steps e admits).device_works;
      link_works = (clear setting steps e admits).link_works;
      time = (clear setting steps e admits).time_rises;
      counter = (clear setting steps e admits).counter_rises;
      started = (clear setting steps e admits).device_up;
      once = (clear setting steps e admits).started_once;
      plan = (clear setting steps e admits).plan_left;
      window = (clear setting steps e admits).in_window;
      failed = (clear setting steps e admits).has_failed;
      member = (clear setting steps e admits).is_member;
    }
  where
    behind : {A : Type 0} {x a b c d f g h : A} {xs : List A} → Among x xs → Among x (a ∷ b ∷ c ∷ d ∷ f ∷ g ∷ h ∷ xs)
    behind a = later (later (later (later (later (later (later a))))))

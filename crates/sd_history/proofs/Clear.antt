-- What holds of an event that is admitted: no cause of the rules, each under a name.
use Rattle.std.specs.Prelude.{◌≡◌, Bool, false, List, find, Option, Some, None, option_map, refl}
use Rattle.sd_history.specs.declared.ApplyFault.{ApplyFault}
use Rattle.sd_history.specs.declared.ApplyFault.TheVariants as fault
use Rattle.sd_sched.specs.declared.Event.{Event}
use Rattle.sd_history.specs.World.{Setting}
use Rattle.sd_history.specs.Steps.{Step, seen_of}
use Rattle.sd_history.specs.Refusals.{causes, refusal, too_many, unknown_device, unknown_link, dead_device, dead_link, unknown_message, spent_message, wrong_device, time_falls, counter_falls, not_started, started_twice, no_plan_left, window_order, after_end, not_failed, not_member}
use Rattle.sd_history.specs.Admitted.{Admits}
use Rattle.sd_history.proofs.Among.{first, later}
use Rattle.sd_history.proofs.Admitted.{rule_holds, accepted_is_admitted}
use Rattle.sd_history.proofs.Shared.{none_passes}

pub record IsClear (setting : Setting) (steps : List Step) (e : Event) : Type 0 where
  pub device_known : unknown_device setting e ≡ false
  pub link_known : unknown_link setting e ≡ false
  pub device_works : dead_device (seen_of steps) e ≡ false
  pub link_works : dead_link (seen_of steps) e ≡ false
  pub message_known : unknown_message steps e ≡ false
  pub message_open : spent_message steps e ≡ false
  pub right_device : wrong_device steps e ≡ false
  pub time_rises : time_falls (seen_of steps) e ≡ false
  pub counter_rises : counter_falls (seen_of steps) e ≡ false
  pub device_up : not_started (seen_of steps) e ≡ false
  pub started_once : started_twice setting (seen_of steps) e ≡ false
  pub plan_left : no_plan_left setting (seen_of steps) e ≡ false
  pub in_window : window_order setting steps e ≡ false
  pub before_end : after_end (seen_of steps) ≡ false
  pub has_failed : not_failed (seen_of steps) e ≡ false
  pub is_member : not_member setting (seen_of steps) e ≡ false

-- here alone a cause is named by its place
pub clear : (setting : Setting) (steps : List Step) (e : Event) → Admits setting steps e → IsClear setting steps e
clear setting steps e admits = record {
  device_known = rule_holds setting steps e _ admits first refl;
  link_known = rule_holds setting steps e _ admits (later first) refl;
  device_works = rule_holds setting steps e _ admits (later (later first)) refl;
  link_works = rule_holds setting steps e _ admits (later (later (later first))) refl;
  message_known = rule_holds setting steps e _ admits (later (later (later (later first)))) refl;
  message_open = rule_holds setting steps e _ admits (later (later (later (later (later first))))) refl;
  right_device = rule_holds setting steps e _ admits (later (later (later (later (later (later first)))))) refl;
  time_rises = rule_holds setting steps e _ admits (later (later (later (later (later (later (later first))))))) refl;
  counter_rises = rule_holds setting steps e _ admits (later (later (later (later (later (later (later (later first)))))))) refl;
  device_up = rule_holds setting steps e _ admits (later (later (later (later (later (later (later (later (later first))))))))) refl;
  started_once = rule_holds setting steps e _ admits (later (later (later (later (later (later (later (later (later (later first)))))))))) refl;
  plan_left = rule_holds setting steps e _ admits (later (later (later (later (later (later (later (later (later (later (later first))))))))))) refl;
  in_window = rule_holds setting steps e _ admits (later (later (later (later (later (later (later (later (later (later (later (later first)))))))))))) refl;
  before_end = rule_holds setting steps e _ admits (later (later (later (later (later (later (later (later (later (later (later (later (later first))))))))))))) refl;
  has_failed = rule_holds setting steps e _ admits (later (later (later (later (later (later (later (later (later (later (later (later (later (later first)))))))))))))) refl;
  is_member = rule_holds setting steps e _ admits (later (later (later (later (later (later (later (later (later (later (later (later (later (later (later first))))))))))))))) refl;
}

pub accepted_is_clear : (setting : Setting) (steps : List Step) (e : Event) → refusal setting steps e ≡ None → IsClear setting steps e
accepted_is_clear setting steps e none = clear setting steps e (accepted_is_admitted setting steps e none)

-- Of an accepted event, too, that there may be one more

pub few_events : (setting : Setting) (steps : List Step) (e : Event) → refusal setting steps e ≡ None → too_many (seen_of steps) ≡ false
few_events setting steps e none =
    none_passes (λ cause. cause.1) (causes setting steps e) (fault.TooManyEvents, too_many (seen_of steps)) (unfound (find (λ cause. cause.1) (causes setting steps e)) none)
    (later (later (later (later (later (later (later (later (later (later (later (later (later (later (later (later first))))))))))))))))
  where
    unfound : (o : Option (ApplyFault × Bool)) → option_map (λ (cause : ApplyFault × Bool). cause.0) o ≡ None → o ≡ None
    unfound None none' = refl
    unfound (Some cause) none' = cc

-- What a monitor keeps stands for an event more that it is not shown, since the event says nothing of its premise.
use Rattle.std.proofs.Common.{◌≡◌, ℕ, Bool, true, ◌&&◌, List, ◌∷◌, nat_le, Option, None, sym, ap, ◌∙◌}
use Rattle.sd_num.specs.Lists.{map_or}
use Rattle.sd_num.specs.Numbers.{distance}
use Rattle.sd_device.specs.declared.msg.Flight.{Flight}
use Rattle.sd_sched.specs.Events.{reference_of}
use Rattle.sd_history.specs.World.{Setting, Seen}
use Rattle.sd_sched.specs.Honesty.{clock_set}
use Rattle.sd_history.specs.Premises.{start_holds, is_in_time, delay_holds}
use Rattle.sd_monitors.specs.clocks.Starts.{StartStands}
use Rattle.sd_monitors.specs.clocks.Delays.{DelayStands}

-- an event that sets no clock
pub start_skips : (keeps : Bool) (s : Seen) (earlier : List Seen) → clock_set s.event ≡ None → StartStands keeps earlier → StartStands keeps (s ∷ earlier)
start_skips keeps s earlier unset stands = record {
  holds = stands.holds
      ∙ sym (ap (λ (o : Option (ℕ × ℕ)). map_or o true (λ set. nat_le (distance set.0 (reference_of s.event)) set.1) && start_holds earlier) unset);
}

-- an event that receives nothing
pub delay_skips : (setting : Setting) (keeps : Bool) (s : Seen) (earlier : List Seen) → s.taken ≡ None → DelayStands setting keeps earlier
    → DelayStands setting keeps (s ∷ earlier)
delay_skips setting keeps s earlier untaken stands = record {
  holds = stands.holds
      ∙ sym (ap (λ (o : Option Flight). map_or o true (is_in_time setting (reference_of s.event)) && delay_holds setting earlier) untaken);
}

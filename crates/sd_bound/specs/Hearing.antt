-- How soon all hear again. Under an accepted plan each live device with a bound of the drill hears again of a device that acts as root, so long after the
-- latest failure at most as one number of the topology and the plan says (recovery). It is the same for all devices and all domains. From then on the device
-- goes on hearing.
use Rattle.std.specs.Prelude.{◌≡◌, ℕ, ◌+◌, ◌-◌, ◌*◌, ◌<◌, ◌≤◌, true, ◌||◌, not, List, ◌∷◌, nat_le, is_some, IsTrue, ◌⊎◌}
use Rattle.std.specs.List.{list_all, list_any}
use Rattle.sd_num.specs.Lists.{map_or}
use Rattle.sd_plan.specs.topo.Network.{Network, rates_of}
use Rattle.sd_plan.specs.topo.Limits.{IsNetwork}
use Rattle.sd_plan.specs.domain.Domains.{holds}
use Rattle.sd_plan.specs.declared.domain.DomainId.{DomainId}
use Rattle.sd_plan.specs.declared.Plan.{Plan}
use Rattle.sd_plan.specs.Plans.{Fits}
use Rattle.sd_checker.specs.check_root.Timing.{silence}
use Rattle.sd_checker.specs.Conditions.{IsAccepted}
use Rattle.sd_device.specs.declared.msg.Flight.{Flight}
use Rattle.sd_device.specs.declared.msg.Message.{Message}
use Rattle.sd_sched.specs.declared.Event.{Event}
use Rattle.sd_sched.specs.Events.{reference_of, is_stage}
use Rattle.sd_history.specs.Things.{failure_of}
use Rattle.sd_history.specs.World.{is_counted, alone}
use Rattle.sd_history.specs.Steps.{Step, seen_of, acts_in}
use Rattle.sd_history.specs.Chronicle.{IsHistory}
use Rattle.sd_history.specs.Premises.{all_hold}
use Rattle.sd_drill.specs.declared.Budget.{Budget}
use Rattle.sd_drill.specs.Drill.{IsWorst}
use Rattle.sd_safety.specs.invariant.Bounds.{depth, delay, tick_gap, rounds_gap}
use Rattle.sd_safety.specs.messages.Moments.{Moment, upto, when, IsIn, IsBefore, Emits, Receipt}
use Rattle.sd_bound.specs.Recovering.{steps_under}
use Rattle.sd_bound.specs.chains.Chains.{turning}

-- The device accepted a message of a round that a root sent later than one reference, and no earlier than another. A root is a device that acted as root then,
-- and acts still.
pub record HasHeard (steps : List Step) (d since lately : ℕ) : Type 0 where
  -- the receipt
  pub receipt : Moment
  pub is_in : IsIn receipt steps
  pub flight : Flight
  pub accepts : Receipt receipt d flight
  -- the emission of its round
  pub emission : Moment
  pub is_before : IsBefore emission receipt
  pub root : ℕ
  pub message : Message
  pub emits : Emits emission root message
  pub same_stamp : message.stamp ≡ flight.message.stamp
  pub same_epoch : message.epoch ≡ flight.message.epoch
  pub is_later : since < when emission
  pub is_recent : lately ≤ when emission
  -- its root
  pub acted : acts_in (upto emission) root ≡ true
  pub acts : acts_in steps root ≡ true

-- the device acts as root, or has heard of one
abbrev pub IsServed : List Step → (d since lately : ℕ) → Type 0
IsServed steps d since lately = (acts_in steps d ≡ true) ⊎ HasHeard steps d since lately

-- A history of one plan in which no premise is broken, only things of the domain fail, and nothing fails later than the reference. It has begun by then.
pub record IsUndisturbedSince (net : Network) (plan : Plan) (f : DomainId) (since : ℕ) (history : List Event) : Type 0 where
  pub is : IsHistory (alone net plan) history
  pub premises : IsTrue (all_hold (alone net plan) (seen_of (steps_under net plan history)))
  pub inside : IsTrue (list_all (λ e. map_or (failure_of e) true (holds net f)) history)
  pub unstaged : IsTrue (list_all (λ e. not (is_stage e)) history)
  pub unfailed : IsTrue (list_all (λ e. not (is_some (failure_of e)) || nat_le (reference_of e) since) history)
  pub begun : IsTrue (list_any (λ e. nat_le (reference_of e) since) history)

-- How long it takes until a round has come to each device: all members have started (Q), each wait is over (turning), K + 1 rounds are sent (A), and one of
-- them comes down over 2 * (H + 1) hops.
abbrev pub recovery : Network → Plan → ℕ
recovery net plan = tick_gap net + turning net plan + (rounds_gap net + 2 * (depth net + 1) * delay net)

-- From so long after the reference on, the device is served while it is live. At any event that is later, it acts, or it has heard of a round that a root sent
-- since the reference, and within the last W.
abbrev pub HearsWithin : Network → Plan → DomainId → (d time : ℕ) → Type 0
HearsWithin net plan f d time =
    (since : ℕ) (e : Event) (history : List Event) → IsUndisturbedSince net plan f since (e ∷ history)
    → IsTrue (is_counted (alone net plan) (seen_of (steps_under net plan history)) d) → since + time < reference_of e
    → IsServed (steps_under net plan history) d since (reference_of e - silence net)

-- each device that has a bound of the drill hears again
abbrev pub HearsAgain : Network → Plan → DomainId → Type 0
HearsAgain net plan f =
    IsNetwork net → Fits net plan → IsAccepted net plan
    → (budget : Budget) (d w : ℕ) → IsWorst net plan budget f d w → HearsWithin net plan f d (recovery net plan)

-- so it does within the age of which the drill speaks
abbrev pub HearsByAge : Network → Plan → DomainId → Type 0
HearsByAge net plan f =
    IsNetwork net → Fits net plan → IsAccepted net plan
    → (budget : Budget) (d w : ℕ) (worst : IsWorst net plan budget f d w) → HearsWithin net plan f d worst.oldest

-- and within any time in which its oscillator may drift by more than its bound
abbrev pub HearsByBound : Network → Plan → DomainId → Type 0
HearsByBound net plan f =
    IsNetwork net → Fits net plan → IsAccepted net plan
    → (budget : Budget) (d w : ℕ) → IsWorst net plan budget f d w
    → (time : ℕ) → 1000000 * w < (rates_of net d).ppm * time → HearsWithin net plan f d time

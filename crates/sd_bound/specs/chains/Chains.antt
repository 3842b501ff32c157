-- A chain to a device: a way from a device that acts, later than a reference, of at most this many hops; and by when all devices had time to move.
use Rattle.std.specs.Prelude.{ℕ, ◌+◌, ◌*◌, ◌≤◌, max, List}
use Rattle.sd_plan.specs.topo.Network.{Network}
use Rattle.sd_plan.specs.declared.topo.Thing.{Thing}
use Rattle.sd_plan.specs.declared.Plan.{Plan}
use Rattle.sd_history.specs.World.{Setting}
use Rattle.sd_safety.specs.invariant.Bounds.{depth, delay, tick_gap, first_up, second_up, wait_up}
use Rattle.sd_safety.specs.messages.Moments.{Moment}
use Rattle.sd_bound.specs.timeouts.Settled.{IsSoundMember}
use Rattle.sd_bound.specs.traces.Led.{ActsSince, Led}

-- a chain of at most this many hops to a device, and where it begins
pub record Chain (setting : Setting) (epoch : ℕ) (failed : List Thing) (top : Moment) (s0 y k : ℕ) : Type 0 where
  pub source : ℕ
  pub well : IsSoundMember setting epoch failed source
  pub acts : ActsSince top s0 source
  pub hops : ℕ
  pub led : Led setting epoch failed top s0 source y hops
  pub short : hops ≤ k + (depth setting.net + 1)

-- how long a message that was on its way may take yet, with one hop more
abbrev pub passing : Network → ℕ
passing net = (2 * (depth net + 1) + 1) * delay net

-- for how long devices may wait before they move, each in its order
abbrev pub turning : Network → Plan → ℕ
turning net plan = max (first_up net plan + second_up net plan + 2 * tick_gap net + (depth net + 1) * delay net) (wait_up net plan + tick_gap net + passing net)

-- all had time to move by this reference
pub record IsTurned (net : Network) (plan : Plan) (calm limit : ℕ) : Type 0 where
  pub wait : calm + passing net + (wait_up net plan + tick_gap net) ≤ limit
  pub first : calm + passing net + (first_up net plan + tick_gap net) ≤ limit
  pub takeover : calm + (depth net + 1) * delay net + first_up net plan + second_up net plan + 2 * tick_gap net ≤ limit

-- For which draft of a schedule a driver stands.
use Rattle.std.specs.Prelude.{◌≡◌, ℕ, length}
use Rattle.sd_plan.specs.topo.Limits.{IsNetwork}
use Rattle.sd_device.specs.contracts.device.DeviceNode.TheImpl.{ghosts as device}
use Rattle.sd_history.specs.World.{Setting}
use Rattle.sd_history.specs.Steps.{flight_count}
use Rattle.sd_history.specs.Nodes.{IsRun, steps_of}
use Rattle.sd_gen.specs.arrivals.Standing as arrivals
use Rattle.sd_gen.specs.declared.driven.Driven.{Ghosts}
use Rattle.sd_gen.specs.declared.driver.Driver.{Driver}
use Rattle.sd_gen.specs.Drafts.{Draft}
use Rattle.sd_gen.specs.Driving.{Run}

-- What is driven stands for a run whose steps are the draft's; the generator and the leads are the draft's; and what waits is, by numbers up
-- to the top.
pub record StandsTo {D : Type 0} (g : Ghosts D) (driver : Driver D) (setting : Setting) (x : Draft) (top : ℕ) : Type 0 where
  pub net : IsNetwork setting.net
  pub run : Run
  pub is_run : IsRun device setting run
  pub driven : g.stands driver.driven setting run
  pub steps : steps_of run ≡ x.steps
  pub rng : driver.random ≡ x.rng
  pub leads : driver.leads.items ≡ x.leads
  pub arrivals : arrivals.StandsFor driver.arrivals top x.waiting

-- a message that waits was sent in these steps
abbrev pub StandsFor : {D : Type 0} (g : Ghosts D) → Driver D → Setting → Draft → Type 0
StandsFor g driver setting x = StandsTo g driver setting x (flight_count x.steps)

-- whatever draft the driver stood for, it now stands for what f makes of it
abbrev pub Becomes : {D : Type 0} (g : Ghosts D) → (old new : Driver D) → (Setting → Draft → Draft) → Type 0
Becomes g old new f = (setting : Setting) (x : Draft) → StandsFor g old setting x → StandsFor g new setting (f setting x)

-- it has this many devices
abbrev pub HasDevices : {D : Type 0} (g : Ghosts D) → Driver D → ℕ → Type 0
HasDevices g driver n = (setting : Setting) (x : Draft) → StandsFor g driver setting x → n ≡ length setting.net.devices

-- What the texts of the third witness say, and a history over them: a network of five devices, a plan, and the same plan with a longer wait.
use Rattle.std.specs.Prelude.{ℕ, zero, suc, ◌+◌, ◌-◌, ◌*◌, List, [], ◌∷◌, ◌++◌, map, Some, None, codes}
use Rattle.sd_plan.specs.topo.Network.{Network, Device, Link}
use Rattle.sd_plan.specs.declared.topo.Side.TheVariants.{Root}
use Rattle.sd_plan.specs.declared.Plan.{Plan}
use Rattle.sd_sched.specs.declared.Event.{Event}
use Rattle.sd_sched.specs.declared.Event.TheVariants.{Start, Tick, Recv, FailDevice, FailLink, Stage, MendLink}
use Rattle.sd_history.specs.World.{Setting}
use Rattle.sd_beside.specs.witness.Shared.{hop}

-- a device whose clock is true
abbrev pub true_device : List ℕ → Device
true_device name = record { name = name; side = Root; rates = record { ppm = 0; grain = 0 } }

-- a link over which a message takes no time
abbrev pub instant_link : List ℕ → ℕ → ℕ → Link
instant_link name a b = record { name = name; entry = record { end_a = a; end_b = b; min = 0; max = 0; back_min = 0; back_max = 0 } }

-- r is device 0, x is 1, b is 2, d is 3, y is 4
abbrev pub network : Network
network =
    record {
      version = 1;
      params = record { ppm = 0; grain = 0; period = 21; tick = 20; loss = 1; depth = 3 };
      devices = true_device (codes "r") ∷ true_device (codes "x") ∷ true_device (codes "b") ∷ true_device (codes "d") ∷ true_device (codes "y") ∷ [];
      links =
          instant_link (codes "rx") 0 1
          ∷ instant_link (codes "xb") 1 2
          ∷ instant_link (codes "rb") 0 2
          ∷ instant_link (codes "bd") 2 3
          ∷ instant_link (codes "dy") 3 4
          ∷ instant_link (codes "ry") 0 4
          ∷ instant_link (codes "xd") 1 3
          ∷ [];
      domains = record { name = codes "feed"; devices = 0 ∷ []; links = 1 ∷ 5 ∷ [] } ∷ [];
      roots = 0 ∷ 2 ∷ [];
    }

-- x and y follow r, b follows x and d follows b; b falls back on r, x on d, and d and y on each other
abbrev pub plan_with : ℕ → Plan
plan_with wait =
    record {
      root = 0;
      backup_root = 2;
      wait_first = 836;
      wait_second = 286;
      wait = wait;
      absent = record { devices = []; links = [] };
      rows =
          None
          ∷ Some (record { primary = hop 0 0; backup = Some (hop 3 6) })
          ∷ Some (record { primary = hop 1 1; backup = Some (hop 0 2) })
          ∷ Some (record { primary = hop 2 3; backup = Some (hop 4 4) })
          ∷ Some (record { primary = hop 0 5; backup = Some (hop 3 4) })
          ∷ [];
    }

-- its wait meets the fourth rule exactly
abbrev pub plan : Plan
plan = plan_with 1980

-- its wait meets the fifth rule exactly
abbrev pub longer : Plan
longer = plan_with 2244

-- the network with both plans
abbrev pub setting : Setting
setting = record { net = network; plans = plan ∷ longer ∷ [] }

-- The history, the newest event first

-- these devices tick
abbrev pub ticks : List ℕ → ℕ → List Event
ticks devices t = map (λ d. Tick t d t) devices

-- what comes at the first n places, the last of them first
abbrev pub back_from : ℕ → (ℕ → List Event) → List Event
back_from zero at = []
back_from (suc n) at = at (suc n) ++ back_from n at

-- all start, and the links xb and ry fail
abbrev pub beginning : List Event
beginning =
    ticks (4 ∷ 3 ∷ 2 ∷ 1 ∷ 0 ∷ []) 20
    ++ FailLink 0 5 ∷ FailLink 0 1 ∷ Start 0 4 0 0 0 ∷ Start 0 3 0 0 0 ∷ Start 0 2 0 0 0 ∷ Start 0 1 0 0 0 ∷ Start 0 0 0 0 0 ∷ []

-- r sends a round, of which x and b hear, all tick, and all tick once more
abbrev pub round : ℕ → List Event
round k =
    ticks (4 ∷ 3 ∷ 2 ∷ 1 ∷ 0 ∷ []) (40 * k + 20)
    ++ (ticks (4 ∷ 3 ∷ 2 ∷ 1 ∷ []) (40 * k)
    ++ Recv (40 * k) 2 (40 * k) (4 * k - 2) ∷ Recv (40 * k) 1 (40 * k) (4 * k - 3) ∷ Tick (40 * k) 0 (40 * k) ∷ [])

-- r sends a last round and fails, xb is mended, and over it the round reaches b. The message from b to d is lost.
abbrev pub straggler : List Event
straggler =
    ticks (4 ∷ 3 ∷ 2 ∷ 1 ∷ []) 840
    ++ Recv 840 2 840 84 ∷ Recv 840 2 840 82 ∷ Recv 840 1 840 81 ∷ MendLink 840 1 ∷ Stage 840 ∷ FailDevice 840 0 ∷ Tick 840 0 840 ∷ []

-- twenty rounds, the last one, and then silence: d and y move
unfoldable pub history : List Event
history =
    Tick 1980 4 1980 ∷ Tick 1980 3 1980
    ∷ (back_from 56 (λ k. ticks (4 ∷ 3 ∷ 2 ∷ 1 ∷ []) (840 + 20 * k)) ++ (straggler ++ (back_from 20 round ++ beginning)))

-- What the texts of `Texts` say: a network of three devices with two links between any two of them, two plans, and the events of the schedule.
use Rattle.std.specs.Prelude.{List, [], ◌∷◌, Some, None, Result, Ok, Err, codes}
use Rattle.sd_plan.specs.topo.Network.{Network}
use Rattle.sd_plan.specs.declared.Plan.{Plan}
use Rattle.sd_sched.specs.declared.Event.{Event}
use Rattle.sd_sched.specs.declared.LineFault.{LineFault}
use Rattle.sd_history.specs.World.{Setting}
use Rattle.sd_beside.specs.witness.Shared.{text_of, device, link, hop}
use Rattle.sd_beside.specs.witness.Texts.{schedule_lines}
use Rattle.sd_beside.specs.witness.Schedules.{events_of}

-- r is device 0, b is 1, x is 2
abbrev pub network : Network
network =
    record {
      version = 1;
      params = record { ppm = 200; grain = 1000; period = 100000000; tick = 90000000; loss = 1; depth = 2 };
      devices = device (codes "r") ∷ device (codes "b") ∷ device (codes "x") ∷ [];
      links =
          link (codes "rb1") 0 1
          ∷ link (codes "rb2") 0 1
          ∷ link (codes "rx1") 0 2
          ∷ link (codes "rx2") 0 2
          ∷ link (codes "bx1") 1 2
          ∷ link (codes "bx2") 1 2
          ∷ [];
      domains = [];
      roots = 0 ∷ 1 ∷ 2 ∷ [];
    }

-- r is the root and b the backup root, which falls back on r; x follows r and falls back on b
abbrev pub first_plan : Plan
first_plan =
    record {
      root = 0;
      backup_root = 1;
      wait_first = 1344395880;
      wait_second = 1344395880;
      wait = 6723055132;
      absent = record { devices = []; links = [] };
      rows =
          None
          ∷ Some (record { primary = hop 0 0; backup = Some (hop 0 1) })
          ∷ Some (record { primary = hop 0 2; backup = Some (hop 1 4) })
          ∷ [];
    }

-- without r: b is the root, and x the backup root, which falls back on b
abbrev pub second_plan : Plan
second_plan =
    record {
      root = 1;
      backup_root = 2;
      wait_first = 1344395880;
      wait_second = 1344395880;
      wait = 6723055132;
      absent = record { devices = 0 ∷ []; links = [] };
      rows = None ∷ None ∷ Some (record { primary = hop 1 4; backup = Some (hop 1 5) }) ∷ [];
    }

-- the network with both plans
abbrev pub setting : Setting
setting = record { net = network; plans = first_plan ∷ second_plan ∷ [] }

-- the events that were read, and none where a line has a fault
abbrev pub read_events : Result (List Event) LineFault → List Event
read_events (Ok events) = events
read_events (Err fault) = []

-- the events of the schedule
unfoldable pub events : List Event
events = read_events (events_of (text_of schedule_lines))

-- What is said of a schedule and an opening, by their events.
use Rattle.std.specs.Prelude.{◌≡◌, ◌⊎◌, ℕ, List, length}
use Rattle.sd_plan.specs.topo.Network.{Network}
use Rattle.sd_plan.specs.declared.Plan.{Plan}
use Rattle.sd_device.specs.declared.registers.Registers.{Registers}
use Rattle.sd_device.specs.contracts.device.DeviceNode.TheImpl.{ghosts as device}
use Rattle.sd_sched.specs.declared.Event.{Event}
use Rattle.sd_history.specs.World.{setting_over}
use Rattle.sd_history.specs.Steps.{events_of, seen_of}
use Rattle.sd_history.specs.Nodes.{NodeStep, IsRun, steps_of}
use Rattle.sd_files.specs.Answering.{Allowed}
use Rattle.sd_files.specs.declared.Status.{Status}
use Rattle.sd_files.specs.declared.Status.TheVariants.{Done, Broken}
use Rattle.sd_resume.specs.law.Shifts.{Shift}
use Rattle.sd_resume.specs.law.Law.{whole}
use Rattle.sd_resume.specs.Differences.{Differs, Opens}
use Rattle.sd_resume.specs.Told.{shift_between}
use Rattle.sd_resume.specs.Honesty.{IsDishonest, IsHonest}
use Rattle.sd_resume.specs.declared.differences.Difference.{Difference}
use Rattle.sd_resume.specs.declared.differences.Dishonesty.{Dishonesty}
use Rattle.sd_resume.specs.command.Behind.{GoOnAlike}
use Rattle.sd_resume.specs.command.Printed.{agree_line, differ_line, dishonest_line}

-- Runs of devices with these events, over the plans of the schedule and over the last of them.
pub record AreRuns (shift : Shift) (net : Network) (front plans : List Plan) (one other : List Event) (first second : List (NodeStep Registers)) : Type 0
  where
    pub behind : shift.plans ≡ length front
    pub first_runs : IsRun device (whole net front plans) first
    pub second_runs : IsRun device (setting_over net plans) second
    pub first_happened : events_of (steps_of first) ≡ one
    pub second_happened : events_of (steps_of second) ≡ other

-- the opening stands for the schedule, and is honest
pub record IsAgreed (net : Network) (front plans : List Plan) (one other : List Event) (bytes : List ℕ) (status : Status) : Type 0 where
  pub shift : Shift
  pub first : List (NodeStep Registers)
  pub second : List (NodeStep Registers)
  pub runs : AreRuns shift net front plans one other first second
  pub opens : Opens shift net front plans first second
  pub honest : IsHonest (setting_over net plans) (seen_of (steps_of first)) (seen_of (steps_of second))
  pub behind : GoOnAlike shift net front plans one other
  pub line : bytes ≡ agree_line (length one) (length other)
  pub done : status ≡ Done

-- They differ in this, by the shift between them; and by no shift at all does the opening stand for the schedule.
pub record IsApart (net : Network) (front plans : List Plan) (one other : List Event) (bytes : List ℕ) (status : Status) : Type 0 where
  pub first : List (NodeStep Registers)
  pub second : List (NodeStep Registers)
  pub runs : AreRuns (shift_between net front first second) net front plans one other first second
  pub what : Difference
  pub differs : Differs (shift_between net front first second) first second what
  pub never : (shift : Shift) → Opens shift net front plans first second → ⊥
  pub line : bytes ≡ differ_line what
  pub broken : status ≡ Broken

-- the opening stands for the schedule, and is not honest in this
pub record IsUnfit (net : Network) (front plans : List Plan) (one other : List Event) (bytes : List ℕ) (status : Status) : Type 0 where
  pub shift : Shift
  pub first : List (NodeStep Registers)
  pub second : List (NodeStep Registers)
  pub runs : AreRuns shift net front plans one other first second
  pub opens : Opens shift net front plans first second
  pub what : Dishonesty
  pub dishonest : IsDishonest (setting_over net plans) (seen_of (steps_of first)) (seen_of (steps_of second)) what
  pub line : bytes ≡ dishonest_line what
  pub broken : status ≡ Broken

-- one of the three
abbrev pub IsCompared : Network → (front plans : List Plan) → (one other : List Event) → Allowed
IsCompared net front plans one other bytes status =
    IsAgreed net front plans one other bytes status
    ⊎ (IsApart net front plans one other bytes status ⊎ IsUnfit net front plans one other bytes status)

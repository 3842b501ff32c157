-- The waits of a plan are long enough.
use Rattle.std.specs.Prelude.{ℕ, ◌+◌, ◌*◌, Bool, List, [], ◌∷◌, find, nat_eq, nat_le, nat_lt, Option, if◌then◌else◌}
use Rattle.sd_plan.specs.topo.Network.{Network, least_low, greatest_up, greatest_delay}
use Rattle.sd_plan.specs.declared.Plan.{Plan}
use Rattle.sd_checker.specs.declared.check_root.TimingBreach.{TimingBreach}

-- the greatest reference time between two emissions of an acting root
abbrev pub round_gap : Network → ℕ
round_gap net = greatest_up net net.params.period + net.params.tick

-- the greatest reference time that a device with a sound path stays silent
abbrev pub silence : Network → ℕ
silence net = (net.params.loss + 2) * round_gap net + 4 * (net.params.depth + 1) * greatest_delay net

-- the five inequalities, each with its number and its two sides; in the first the left side must be greater, in the others at least as great
abbrev pub inequalities : Network → Plan → List TimingBreach
inequalities net plan =
    record { rule = 1; left = least_low net net.params.period; right = 2 * (net.params.depth + 1) * greatest_delay net + net.params.tick }
    ∷ record { rule = 2; left = least_low net plan.wait_first; right = 2 * (silence net + net.params.tick) }
    ∷ record { rule = 3; left = least_low net plan.wait_second; right = 2 * (silence net + net.params.tick) }
    ∷ record {
      rule = 4;
      left = least_low net plan.wait;
      right =
          greatest_up net plan.wait_first + greatest_up net plan.wait_second + 6 * (silence net + net.params.tick);
    }
    ∷ record {
      rule = 5;
      left = least_low net plan.wait;
      right =
          2 * greatest_up net plan.wait_first + greatest_up net plan.wait_second + 2 * (silence net + net.params.tick);
    }
    ∷ []

-- the inequality does not hold
abbrev pub is_broken : TimingBreach → Bool
is_broken t = if nat_eq t.rule 1 then nat_le t.left t.right else nat_lt t.left t.right

-- the first inequality that the plan breaks
abbrev pub timing_breach : Network → Plan → Option TimingBreach
timing_breach net plan = find is_broken (inequalities net plan)

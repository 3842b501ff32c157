-- What the witnesses share: how their texts and networks are written, and what is seen of the last step.
use Rattle.std.specs.Prelude.{ℕ, Bool, false, List, [], ◌∷◌, ◌++◌, flat_map, Option, None}
use Rattle.sd_plan.specs.topo.Network.{Device, Link}
use Rattle.sd_plan.specs.declared.topo.Side.TheVariants.{Root}
use Rattle.sd_plan.specs.declared.Hop.{Hop}
use Rattle.sd_drill.specs.declared.Budget.{Budget}
use Rattle.sd_num.specs.declared.clock.Report.{Report}
use Rattle.sd_history.specs.World.{Setting, is_counted}
use Rattle.sd_history.specs.Steps.{Step, seen_of}
use Rattle.sd_history.specs.Lines.{asked_report}

-- a text of these lines, with a newline after each
abbrev pub text_of : List (List ℕ) → List ℕ
text_of lines = flat_map (λ line. line ++ 10 ∷ []) lines

-- a device with the rates of the topologies here
abbrev pub device : List ℕ → Device
device name = record { name = name; side = Root; rates = record { ppm = 200; grain = 1000 } }

-- a link with the delays that all links here have
abbrev pub link : List ℕ → ℕ → ℕ → Link
link name a b = record { name = name; entry = record { end_a = a; end_b = b; min = 400000; max = 1000000; back_min = 400000; back_max = 1000000 } }

-- a hop to a parent over a link
abbrev pub hop : ℕ → ℕ → Hop
hop parent link = record { parent = parent; link = link }

-- clocks are set within 1 us, and a root that acts holds its estimate for 3 ms at most
abbrev pub budget : Budget
budget = record { base = 1000000; hold = 3000000000 }

-- the report of the last step, with its device
abbrev pub last_report : List Step → Option (ℕ × Report)
last_report [] = None
last_report (s ∷ earlier) = asked_report s

-- the device counted as live when the last step came
abbrev pub was_counted : Setting → List Step → ℕ → Bool
was_counted over [] d = false
was_counted over (s ∷ earlier) d = is_counted over (seen_of earlier) d

-- a report of a clock with its uncertainty
abbrev pub report : ℕ → ℕ → Report
report clock eps = record { clock = clock; eps = eps }

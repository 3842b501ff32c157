-- What is found of an event, by the trouble that it brings and what came of it.
use Rattle.std.specs.Prelude.{ℕ, Option}
use Rattle.sd_num.specs.declared.clock.Report.{Report}
use Rattle.sd_sched.specs.declared.Event.{Event}
use Rattle.sd_sched.specs.Events.{reference_of}
use Rattle.sd_fleet.specs.declared.Outcome.{Outcome}
use Rattle.sd_replay.specs.declared.trouble.Trouble.{Trouble}
use Rattle.sd_replay.specs.declared.lines.findings.Findings.{Findings}

-- what is found at a reference, with this trouble and this report
abbrev pub found_by : Trouble → Option (ℕ × Report) → ℕ → Findings
found_by trouble report reference =
    record {
      broken = trouble.broken;
      looped = trouble.alarms.looped;
      roots = trouble.alarms.roots;
      report = report;
      reference = reference;
    }

-- what is found of an event
abbrev pub found_with : Trouble → Event → Outcome → Findings
found_with trouble e outcome = found_by trouble outcome.report (reference_of e)

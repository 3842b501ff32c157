-- How a tally goes on with what is found of an event.
use Rattle.std.specs.Prelude.{ℕ, ◌+◌, ◌^◌, ◌<◌, Bool, count_by, is_some, max, if◌then◌else◌}
use Rattle.sd_num.specs.Lists.{map_or}
use Rattle.sd_replay.specs.declared.lines.findings.Findings.{Findings}
use Rattle.sd_replay.specs.lines.Findings.{found_lines}
use Rattle.sd_replay.specs.declared.Tally.{Tally}
use Rattle.sd_replay.specs.Tallies.{is_broken, is_alarm}

-- before any event
abbrev pub no_tally : Tally
no_tally = record { events = 0; reports = 0; broken = 0; alarms = 0; greatest_eps = 0 }

-- its numbers do not come near their ends
pub record HasRoom (tally : Tally) : Type 0 where
  pub events : tally.events < 2 ^ 32
  pub reports : tally.reports < 2 ^ 32
  pub broken : tally.broken < 2 ^ 32
  pub alarms : tally.alarms < 2 ^ 32

-- 1 where it is so, else 0
abbrev pub one : Bool → ℕ
one so = if so then 1 else 0

-- with an event of which nothing is to be printed
abbrev pub with_nothing : Tally → Tally
with_nothing tally = record tally { events = tally.events + 1 }

-- with an event of which this was found
abbrev pub tally_with : Tally → Findings → Tally
tally_with tally found =
    record {
      events = tally.events + 1;
      reports = tally.reports + one (is_some found.report);
      broken = tally.broken + count_by is_broken (found_lines found);
      alarms = tally.alarms + count_by is_alarm (found_lines found);
      greatest_eps = max tally.greatest_eps (map_or found.report 0 (λ told. told.1.eps));
    }

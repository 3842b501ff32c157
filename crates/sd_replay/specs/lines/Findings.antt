-- The lines of what is found of one event.
use Rattle.std.specs.Prelude.{ℕ, ◌<◌, Bool, false, not, ◌||◌, ◌&&◌, is_some, List, [], ◌∷◌, ◌++◌, length, flat_map, Option, IfSome}
use Rattle.sd_num.specs.Lists.{map_or}
use Rattle.sd_num.specs.Texts.{text_of}
use Rattle.sd_plan.specs.topo.Network.{Network}
use Rattle.sd_num.specs.declared.clock.Report.{Report}
use Rattle.sd_num.specs.clock.Estimates.{contains}
use Rattle.sd_history.specs.declared.BrokenSet.{BrokenSet}
use Rattle.sd_history.specs.Lines.{Line, LoopAlarm, RootsAlarm, broken_lines, report_lines}
use Rattle.sd_history.specs.Text.{line_words}
use Rattle.sd_replay.specs.declared.lines.findings.Findings.{Findings}

-- all devices of what was found are of the network
pub record IsOf (net : Network) (found : Findings) : Type 0 where
  pub looped : IfSome found.looped (λ d. d < length net.devices)
  pub first : IfSome found.roots (λ two. two.0 < length net.devices)
  pub second : IfSome found.roots (λ two. two.1 < length net.devices)
  pub asked : IfSome found.report (λ told. told.0 < length net.devices)

-- some premise breaks
abbrev pub breaks_some : BrokenSet → Bool
breaks_some b = b.start || (b.drift || (b.delay || (b.tick || (b.loss || (b.domain || b.renew)))))

-- no premise breaks, and there is no loop, no two that act and no report
abbrev pub finds_none : BrokenSet → Option ℕ → Option (ℕ × ℕ) → Option (ℕ × Report) → Bool
finds_none broken looped roots report = not (breaks_some broken) && (not (is_some looped) && (not (is_some roots) && not (is_some report)))

-- nothing is to be printed
abbrev pub are_none : Findings → Bool
are_none found = finds_none found.broken found.looped found.roots found.report

-- there is a report that misses the reference
abbrev pub misses_in : Findings → Bool
misses_in found = map_or found.report false (λ told. not (contains told.1 found.reference))

-- the line of a loop, if one was found
abbrev pub loop_found : Option ℕ → List Line
loop_found looped = map_or looped [] (λ d. LoopAlarm d ∷ [])

-- the line of two roots, if they were found
abbrev pub roots_found : Option (ℕ × ℕ) → List Line
roots_found roots = map_or roots [] (λ two. RootsAlarm two.0 two.1 ∷ [])

-- the lines of what was found, in their order
abbrev pub found_lines : Findings → List Line
found_lines found =
    broken_lines found.broken ++ loop_found found.looped ++ roots_found found.roots ++ map_or found.report [] (report_lines found.reference)

-- a line of the event with number n, as it is printed
abbrev pub line_bytes : Network → ℕ → Line → List ℕ
line_bytes net n line = text_of (line_words net n line)

-- all lines of the event with number n, as they are printed
abbrev pub found_bytes : Network → ℕ → Findings → List ℕ
found_bytes net n found = flat_map (line_bytes net n) (found_lines found)

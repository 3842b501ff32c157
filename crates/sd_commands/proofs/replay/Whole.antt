-- What is written for a step is whole lines.
use Rattle.std.proofs.Common.{◌≡◌, ℕ, true, List, [], ◌∷◌, Option, Some, None, refl}
use Rattle.std.specs.Prelude.{flat_map, length}
use Rattle.sd_num.specs.Lists.{map_or}
use Rattle.sd_num.specs.Texts.{text_of}
use Rattle.sd_num.specs.declared.clock.Report.{Report}
use Rattle.sd_history.specs.World.{Setting}
use Rattle.sd_history.specs.Steps.{Step}
use Rattle.sd_history.specs.Chronicle.{chronicle}
use Rattle.sd_history.specs.Lines.{lines_of, asked_report, reports}
use Rattle.sd_history.specs.Text.{bytes_of, device_name, line_words}
use Rattle.sd_replay.specs.wait.Waits.{lines_at}
use Rattle.sd_replay.specs.wait.Printed.{bytes_at, words_of}
use Rattle.sd_files.specs.work.Leaving.{are_lines}
use Rattle.sd_files.specs.work.WholeLines.{WritesWhole}
use Rattle.sd_files.proofs.work.Whole.{append_whole, text_whole}
use Rattle.sd_commands.specs.replay.Replays.{replay_work, order_work, with_waits, waits_after}

all_whole : {A : Type 0} (words : A → List (List ℕ)) (xs : List A) → are_lines (flat_map (λ x. text_of (words x)) xs) ≡ true
all_whole words [] = refl
all_whole words (x ∷ xs) = append_whole (text_of (words x)) (flat_map (λ y. text_of (words y)) xs) (text_whole (words x)) (all_whole words xs)

step_whole : (setting : Setting) (steps : List Step) → are_lines (bytes_of setting steps) ≡ true
step_whole setting steps = all_whole (line_words setting.net (length steps)) (lines_of setting steps)

waits_whole : (setting : Setting) (earlier : List Step) (s : Step) → are_lines (waits_after setting earlier s) ≡ true
waits_whole setting earlier s = by (asked_report s)
  where
    by : (o : Option (ℕ × Report))
        → are_lines (map_or o [] (λ told. bytes_at (reports (s ∷ earlier)) (length (reports earlier)) (device_name setting.net told.0))) ≡ true
    by None = refl
    by (Some told) = all_whole (words_of (device_name setting.net told.0)) (lines_at (reports (s ∷ earlier)) (length (reports earlier)))

pub replay_whole : (setting : Setting) → WritesWhole (replay_work setting)
replay_whole setting events e = step_whole setting (chronicle setting (e ∷ events))

both_whole : (setting : Setting) (steps : List Step) → are_lines (with_waits setting steps) ≡ true
both_whole setting [] = refl
both_whole setting (s ∷ earlier) =
    append_whole (bytes_of setting (s ∷ earlier)) (waits_after setting earlier s) (step_whole setting (s ∷ earlier)) (waits_whole setting earlier s)

pub order_whole : (setting : Setting) → WritesWhole (order_work setting)
order_whole setting events e = both_whole setting (chronicle setting (e ∷ events))

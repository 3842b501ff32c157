-- Transactions that were worked out by hand.
use Rattle.std.specs.Prelude.{◌≡◌, ℕ, List, [], ◌∷◌, flat_map, length, refl}
use Rattle.sd_num.specs.Lists.{below}
use Rattle.sd_device.specs.msg.Observed.{ReportAt}
use Rattle.sd_replay.specs.wait.Waits.{WaitLine, Ended, Disorder, Begin, lines_at, tally_of}

abbrev told : ℕ → ℕ → ℕ → ℕ → ReportAt
told line device clock eps = record { line = line; device = device; reference = clock; report = record { clock = clock; eps = eps } }

abbrev all_lines : List ReportAt → List WaitLine
all_lines xs = flat_map (lines_at xs) (below (length xs))

abbrev three : ℕ → List ReportAt
three last = told 4 0 1000000 1700 ∷ told 5 0 1003000 1701 ∷ told 6 0 last 1701 ∷ []

one_ends : all_lines (three 1004000) ≡ Begin 4 0 1001700 ∷ Begin 5 0 1004701 ∷ Ended 6 4 ∷ Begin 6 0 1005701 ∷ []
one_ends = refl

one_ends_tally : tally_of (three 1004000) ≡ record { begun = 3; ended = 1; disorders = 0 }
one_ends_tally = refl

none_ends_yet : lines_at (three 1003401) 2 ≡ Begin 6 0 1005102 ∷ []
none_ends_yet = refl

ends_one_later : lines_at (three 1003402) 2 ≡ Ended 6 4 ∷ Begin 6 0 1005103 ∷ []
ends_one_later = refl

with_disorder : List ReportAt
with_disorder = told 3 0 1000000 1700 ∷ told 4 0 1004000 1701 ∷ told 6 1 0 1500 ∷ []

disorder_lines : all_lines with_disorder ≡ Begin 3 0 1001700 ∷ Ended 4 3 ∷ Begin 4 0 1005701 ∷ Disorder 6 3 ∷ Begin 6 1 1500 ∷ []
unfolding with_disorder
disorder_lines = refl

disorder_tally : tally_of with_disorder ≡ record { begun = 3; ended = 1; disorders = 1 }
unfolding with_disorder
disorder_tally = refl

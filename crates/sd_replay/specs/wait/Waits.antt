-- Commit wait: each report begins a transaction of its device, and ends those of that device whose stamp has surely passed.
use Rattle.std.specs.Prelude.{ℕ, ◌+◌, Bool, false, ◌&&◌, List, [], ◌∷◌, ◌++◌, length, filter, map, find, count_by, nat_eq, nat_le, nat_lt, Option, is_some}
use Rattle.std.specs.List.{list_any}
use Rattle.sd_num.specs.Lists.{below, map_or, at_place, same_number, greatest}
use Rattle.sd_device.specs.msg.Observed.{ReportAt}
use Rattle.sd_replay.specs.declared.wait.WaitTally.{WaitTally}

-- the stamp of the transaction that a report begins: the upper end of its interval
abbrev pub stamp_of : ReportAt → ℕ
stamp_of x = x.report.clock + x.report.eps

-- the lower end of the later report's interval lies past the earlier one's stamp, and both are of one device
abbrev pub surely_after : ReportAt → ReportAt → Bool
surely_after earlier later = nat_eq earlier.device later.device && nat_lt (stamp_of earlier + later.report.eps) later.report.clock

-- the reports at places i and j are so
abbrev pub ends_by : List ReportAt → ℕ → ℕ → Bool
ends_by told i j = at_place told i false (λ earlier. at_place told j false (surely_after earlier))

-- the place at which transaction i ends: the first after it that is surely after
abbrev pub end_place : List ReportAt → ℕ → Option ℕ
end_place told i = find (λ j. nat_lt i j && ends_by told i j) (below (length told))

-- the stamp of the transaction that a report begins
abbrev pub stamp_at : List ReportAt → ℕ → ℕ
stamp_at told i = at_place told i 0 stamp_of

-- the line of a report
abbrev pub line_at : List ReportAt → ℕ → ℕ
line_at told i = at_place told i 0 (λ x. x.line)

-- transaction i ended at or before report k
abbrev pub has_ended_by : List ReportAt → ℕ → ℕ → Bool
has_ended_by told i k = map_or (end_place told i) false (λ j. nat_le j k)

-- i ended at or before k, and yet k, which begins after i, has no greater stamp
abbrev pub is_disorder : List ReportAt → ℕ → ℕ → Bool
is_disorder told i k = has_ended_by told i k && nat_lt i k && nat_le (stamp_at told k) (stamp_at told i)

-- the transactions that end at report k, ascending
abbrev pub ended_at : List ReportAt → ℕ → List ℕ
ended_at told k = filter (λ i. same_number (end_place told i) k) (below (length told))

-- the transactions of which report k shows a disorder
abbrev pub disordered_at : List ReportAt → ℕ → List ℕ
disordered_at told k = filter (λ i. is_disorder told i k) (below (length told))

-- of those the first with the greatest stamp
abbrev pub worst_disorder : List ReportAt → ℕ → Option ℕ
worst_disorder told k =
    let worst = greatest (map (stamp_at told) (disordered_at told k)) in
    find (λ i. nat_eq (stamp_at told i) worst) (disordered_at told k)

-- what is printed of transactions: an end, a disorder or a beginning
pub data WaitLine : Type 0 where
  Ended : (line begin : ℕ) → WaitLine
  Disorder : (line begin : ℕ) → WaitLine
  Begin : (line device stamp : ℕ) → WaitLine

-- the lines of report k: what ends, a disorder if there is one, and what begins
abbrev pub lines_at : List ReportAt → ℕ → List WaitLine
lines_at told k =
    map (λ i. Ended (line_at told k) (line_at told i)) (ended_at told k)
    ++ map_or (worst_disorder told k) [] (λ i. Disorder (line_at told k) (line_at told i) ∷ [])
    ++ at_place told k [] (λ x. Begin x.line x.device (stamp_of x) ∷ [])

-- report k tells of a disorder
abbrev pub has_disorder : List ReportAt → ℕ → Bool
has_disorder told k = list_any (λ i. is_disorder told i k) (below (length told))

-- all reports, those of them that ended, and those at which a disorder shows
abbrev pub tally_of : List ReportAt → WaitTally
tally_of told =
    record {
      begun = length told;
      ended = count_by (λ i. is_some (end_place told i)) (below (length told));
      disorders = count_by (has_disorder told) (below (length told));
    }

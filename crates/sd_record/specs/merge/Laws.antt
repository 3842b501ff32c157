-- What is promised of a merge of a feed, whatever its text is.
use Rattle.std.specs.Prelude.{◌≡◌, ◌≤◌, ℕ, List, [], ◌∷◌, ◌++◌, None, IfSome}
use Rattle.sd_files.specs.work.Works.{all_bytes, reading, written_for}
use Rattle.sd_record.specs.merge.Growing.{Said, from_of, merged, settled}
use Rattle.sd_record.specs.merge.Lines.{LogLine, line_at, text_of_lines}
use Rattle.sd_record.specs.merge.Merging.{IsMerge, merge}
use Rattle.sd_record.specs.merge.Works.{merge_work}

-- it may come next: it is of one of the logs, and no entry falls behind the reference that its log has reached
pub record IsNext (count : ℕ) (taken : List Said) (s : Said) : Type 0 where
  pub first : 1 ≤ s.log
  pub last : s.log ≤ count
  pub in_order : IfSome s.entry (λ bytes. from_of taken s.log ≤ s.reference)

-- a feed may go on so; the newest comes first
abbrev pub GoesOn : (count : ℕ) → (taken later : List Said) → Type 0
GoesOn count taken [] = Unit {0}
GoesOn count taken (s ∷ later) = GoesOn count taken later × IsNext count (later ++ taken) s

-- it is a front of the other one
abbrev pub IsFrontOf : {A : Type 0} → (front whole : List A) → Type 0
IsFrontOf {A = A} front whole = (others : List A) × (whole ≡ front ++ others)

-- what is settled leads the merge of the logs, however they go on
abbrev pub StaysSettled : (count : ℕ) → Type 0
StaysSettled count = (taken later : List Said) → GoesOn count taken later → IsFrontOf (settled count taken) (merged count (later ++ taken))

-- What is written of a feed. For its lines that is what they have settled. Where the feed is not refused, it is all lines of all logs, merged. Each line that
-- was taken is one with which the feed may go on.
pub record WritesMerge (count : ℕ) (text : List ℕ) : Type 0 where
  pub goes_on : GoesOn count [] (reading (merge_work count) text).taken
  pub front : all_bytes (merge_work count) (reading (merge_work count) text).taken ≡ text_of_lines (settled count (reading (merge_work count) text).taken)
  pub whole : (reading (merge_work count) text).refused ≡ None
      → written_for (merge_work count) (reading (merge_work count) text) ≡ text_of_lines (merged count (reading (merge_work count) text).taken)

-- Whatever a feed of this many logs says: what it settles leads the merge of the logs, however they go on, and what is written of it is the merge. To merge is
-- to keep the order within each log, with references that do not fall where they do not fall in the logs.
pub record FeedIsMerged (count : ℕ) : Type 0 where
  pub lawful : (first second : List LogLine) → IsMerge line_at first second (merge line_at first second)
  pub stays : StaysSettled count
  pub writes : (text : List ℕ) → WritesMerge count text

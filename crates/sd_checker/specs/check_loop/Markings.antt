-- Which places of a graph lead to an end on each way, and from which some way never ends.
use Rattle.std.specs.Prelude.{◌≡◌, ◌≢◌, ℕ, ◌+◌, ◌*◌, ◌<◌, true, Bool, false, List, length, slice_index_or, count_by, Option, Some, None}
use Rattle.sd_checker.specs.check_loop.Graphs.{leads, successors_at, BothAre}
use Rattle.sd_checker.specs.declared.check_loop.graph.Successors.{Successors}
use Rattle.sd_checker.specs.declared.check_loop.marking.Mark.{Mark}
use Rattle.sd_checker.specs.declared.check_loop.marking.Mark.TheVariants as mark
use Rattle.sd_checker.specs.declared.check_loop.marking.Step.{Step}
use Rattle.sd_checker.specs.declared.check_loop.marking.Step.TheVariants as step

-- the mark at a place
abbrev pub mark_at : List Mark → ℕ → Mark
mark_at marks i = slice_index_or marks i mark.Ending

-- the place has no mark yet
abbrev pub is_new : Mark → Bool
is_new mark.New = true
is_new mark.Entered = false
is_new mark.Ending = false
is_new mark.Endless = false

-- what is to be done about a successor with this mark
abbrev pub step_by : ℕ → Mark → Step
step_by j mark.New = step.Enter j
step_by j mark.Entered = step.Condemn
step_by j mark.Ending = step.Finish
step_by j mark.Endless = step.Condemn

-- what is to be done about a successor, if there is one
abbrev pub step_to : List Mark → Option ℕ → Step
step_to marks None = step.Finish
step_to marks (Some j) = step_by j (mark_at marks j)

-- the first of two steps, if it is not that all is done
abbrev pub first_step : Step → Step → Step
first_step step.Finish other = other
first_step (step.Enter j) other = step.Enter j
first_step step.Condemn other = step.Condemn

-- what is to be done at a place, by both of its successors
abbrev pub step_at : List Successors → List Mark → ℕ → Step
step_at graph marks i = first_step (step_to marks (successors_at graph i).primary) (step_to marks (successors_at graph i).backup)

-- the place is marked as one whose ways end, with a lower rank than another
abbrev pub EndsBelow : List Mark → (ℕ → ℕ) → ℕ → ℕ → Type 0
EndsBelow marks rank i j = (mark_at marks j ≡ mark.Ending) × (rank j < rank i)

-- where ways end: each leads only to such places, of lower rank
pub record AreRanked (graph : List Successors) (marks : List Mark) : Type 0 where
  pub rank : ℕ → ℕ
  pub falls : (i : ℕ) → mark_at marks i ≡ mark.Ending → BothAre (EndsBelow marks rank i) (successors_at graph i)

-- where some way never ends: each leads to such a place
abbrev pub GoOn : List Successors → List Mark → Type 0
GoOn graph marks = (i : ℕ) → mark_at marks i ≡ mark.Endless → (j : ℕ) × (leads graph i j ≡ true) × (mark_at marks j ≡ mark.Endless)

-- a search that has come so far: the stack has the entered places, each of which leads to the next
pub record IsSearch (graph : List Successors) (marks : List Mark) (stack : List ℕ) : Type 0 where
  pub size : length marks ≡ length graph
  pub ranked : AreRanked graph marks
  pub goes_on : GoOn graph marks
  pub entered : (k : ℕ) → k < length stack → mark_at marks (slice_index_or stack k 0) ≡ mark.Entered
  pub within : (k : ℕ) → k < length stack → slice_index_or stack k 0 < length graph
  pub apart : (k l : ℕ) → k < l → l < length stack → slice_index_or stack k 0 ≢ slice_index_or stack l 0
  pub chain : (k : ℕ) → k + 1 < length stack → leads graph (slice_index_or stack k 0) (slice_index_or stack (k + 1) 0) ≡ true
  pub stacked : (i : ℕ) → mark_at marks i ≡ mark.Entered → (k : ℕ) × (k < length stack) × (slice_index_or stack k 0 ≡ i)

-- how much of the search is left
abbrev pub search_left : List Mark → List ℕ → ℕ
search_left marks stack = 2 * count_by is_new marks + length stack

-- places only cease to be new
abbrev pub NoneNewer : List Mark → List Mark → Type 0
NoneNewer before after = (i : ℕ) → mark_at after i ≡ mark.New → mark_at before i ≡ mark.New

-- a search over all places
pub record IsMarked (graph : List Successors) (marks : List Mark) : Type 0 where
  pub size : length marks ≡ length graph
  pub ranked : AreRanked graph marks
  pub goes_on : GoOn graph marks
  pub done : (i : ℕ) → mark_at marks i ≢ mark.Endless → mark_at marks i ≡ mark.Ending

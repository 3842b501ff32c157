-- The cycle that is shown, by the marks of the places.
use Rattle.std.specs.Prelude.{◌≡◌, ◌≢◌, ℕ, ◌<◌, List, [], ◌∷◌, ◌++◌, length, min, slice_get, slice_index_or, Option, Some, None}
use Rattle.sd_checker.specs.check_loop.Graphs.{successors_at, graph_of}
use Rattle.sd_checker.specs.check_loop.ShownCycles.{IsChain, IsFirstOf, AreDifferent}
use Rattle.sd_checker.specs.check_loop.Markings.{mark_at, IsMarked}
use Rattle.sd_plan.specs.declared.Plan.{Plan}
use Rattle.sd_checker.specs.declared.check_loop.graph.Successors.{Successors}
use Rattle.sd_checker.specs.declared.check_loop.marking.Mark.{Mark}
use Rattle.sd_checker.specs.declared.check_loop.marking.Mark.TheVariants as mark

-- the place, if some way from it never ends
abbrev pub endless_by : ℕ → Mark → Option ℕ
endless_by j mark.New = None
endless_by j mark.Entered = None
endless_by j mark.Ending = None
endless_by j mark.Endless = Some j

-- the place, if there is one and some way from it never ends
abbrev pub endless_at : List Mark → Option ℕ → Option ℕ
endless_at marks None = None
endless_at marks (Some j) = endless_by j (mark_at marks j)

-- the lesser of two places, or the one that is there
abbrev pub lesser : Option ℕ → Option ℕ → Option ℕ
lesser None b = b
lesser (Some a) None = Some a
lesser (Some a) (Some b) = Some (min a b)

-- the least successor from which some way never ends
abbrev pub next_endless : List Successors → List Mark → ℕ → Option ℕ
next_endless graph marks i = lesser (endless_at marks (successors_at graph i).primary) (endless_at marks (successors_at graph i).backup)

-- two devices stand at a place and at the least endless one that this leads to
pub record IsStep (hit : List ℕ) (graph : List Successors) (marks : List Mark) (d e : ℕ) : Type 0 where
  pub here : ℕ
  pub there : ℕ
  pub from : slice_get hit here ≡ Some d
  pub to : slice_get hit there ≡ Some e
  pub endless : mark_at marks here ≡ mark.Endless
  pub next : next_endless graph marks here ≡ Some there

-- the cycle that such steps from a device come to
pub record IsCycle (hit : List ℕ) (graph : List Successors) (marks : List Mark) (begin : ℕ) (first : ℕ) (others : List ℕ) : Type 0 where
  pub lead : List ℕ
  pub begins : IsFirstOf (lead ++ first ∷ others) (λ d. d ≡ begin)
  pub goes_on : IsChain (IsStep hit graph marks) (lead ++ (first ∷ others) ++ first ∷ [])
  pub once : AreDifferent (lead ++ first ∷ others)

-- the list is the cycle that such steps from a device come to
abbrev pub CycleIs : List ℕ → List Successors → List Mark → ℕ → List ℕ → Type 0
CycleIs hit graph marks begin [] = ⊥
CycleIs hit graph marks begin (first ∷ others) = IsCycle hit graph marks begin first others

-- what is answered of the graph of the hit devices, by some marks of all places
abbrev pub IsAnswer : List ℕ → List Successors → List Mark → Option (List ℕ) → Type 0
IsAnswer hit graph marks None = (k : ℕ) → k < length marks → mark_at marks k ≢ mark.Endless
IsAnswer hit graph marks (Some cycle) =
    (begin : ℕ) × (begin < length hit) × (mark_at marks begin ≡ mark.Endless) × ((k : ℕ) → k < begin → mark_at marks k ≢ mark.Endless)
    × CycleIs hit graph marks (slice_index_or hit begin 0) cycle

-- what is shown answers of the devices that are hit
abbrev pub AnswersFor : Plan → List ℕ → Option (List ℕ) → Type 0
AnswersFor plan hit shown = (marks : List Mark) × IsMarked (graph_of plan hit) marks × IsAnswer hit (graph_of plan hit) marks shown

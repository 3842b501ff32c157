-- The devices that are passed on the way to the cycle that is shown.
use Rattle.std.specs.Prelude.{◌≡◌, ℕ, ◌<◌, Bool, true, false, List, [], ◌∷◌, ◌++◌, length, slice_index_or, Option, Some, None}
use Rattle.sd_num.specs.Lists.{has}
use Rattle.sd_checker.specs.check_loop.ShownCycles.{IsChain, IsFirstOf, AreDifferent}
use Rattle.sd_checker.specs.check_loop.Markings.{mark_at}
use Rattle.sd_checker.specs.check_loop.Shown.{IsStep}
use Rattle.sd_checker.specs.declared.check_loop.graph.Successors.{Successors}
use Rattle.sd_checker.specs.declared.check_loop.marking.Mark.{Mark}
use Rattle.sd_checker.specs.declared.check_loop.marking.Mark.TheVariants as mark

-- the hit device at a place
abbrev pub device_at : List ℕ → ℕ → ℕ
device_at hit i = slice_index_or hit i 0

-- where a place was passed, if it was
abbrev pub passed_at : List (Option ℕ) → ℕ → Option ℕ
passed_at passed i = slice_index_or passed i None

-- the place was not passed yet
abbrev pub is_open : Option ℕ → Bool
is_open None = true
is_open (Some k) = false

-- a trail that has come to a place
pub record IsTrail (hit : List ℕ) (graph : List Successors) (marks : List Mark) (begin : ℕ) (path : List ℕ) (passed : List (Option ℕ)) (here : ℕ) : Type 0 where
  pub size : length passed ≡ length hit
  pub within : here < length hit
  pub endless : mark_at marks here ≡ mark.Endless
  pub begins : IsFirstOf (path ++ device_at hit here ∷ []) (λ d. d ≡ device_at hit begin)
  pub goes_on : IsChain (IsStep hit graph marks) (path ++ device_at hit here ∷ [])
  pub once : AreDifferent path
  pub places : (i k : ℕ) → passed_at passed i ≡ Some k → (k < length path) × (slice_index_or path k 0 ≡ device_at hit i)
  pub new : (i : ℕ) → i < length hit → passed_at passed i ≡ None → has path (device_at hit i) ≡ false

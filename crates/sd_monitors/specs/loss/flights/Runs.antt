-- Runs of consecutive rounds of one term. Beside the first and the last round of a run stands the other of the two.
use Rattle.std.specs.Prelude.{◌≡◌, ℕ, ◌+◌, ◌^◌, ◌≤◌, ◌<◌, Bool, true, false, Option, Some, is_some}
use Rattle.std.proofs.Props.{props}

-- the rounds from the first to the last are there, and neither the one before nor the one after
pub record IsRun (ends : ℕ → Option ℕ) (first last : ℕ) : Type 0 where
  pub order : first ≤ last
  pub each : (r : ℕ) → first ≤ r → r ≤ last → is_some (ends r) ≡ true
  pub before : (r : ℕ) → r + 1 ≡ first → is_some (ends r) ≡ false
  pub after : is_some (ends (last + 1)) ≡ false

-- what stands beside the first round of a run is its last, and what stands beside the last is its first
pub record AreRuns (ends : ℕ → Option ℕ) : Type 0 where
  pub from_first : (r e : ℕ) → ends r ≡ Some e → ((p : ℕ) → p + 1 ≡ r → is_some (ends p) ≡ false) → IsRun ends r e
  pub from_last : (r e : ℕ) → ends r ≡ Some e → is_some (ends (r + 1)) ≡ false → IsRun ends e r
  pub fit : (r : ℕ) → is_some (ends r) ≡ true → r < 2 ^ 64

-- from the first round on all are there up to the one before this round, and the one before the first is not
pub record ReachesBack (ends : ℕ → Option ℕ) (round first : ℕ) : Type 0 where
  pub order : first ≤ round
  pub each : (r : ℕ) → first ≤ r → r < round → is_some (ends r) ≡ true
  pub before : (r : ℕ) → r + 1 ≡ first → is_some (ends r) ≡ false

-- from the one after this round on all are there up to the last, and the one after the last is not
pub record ReachesOn (ends : ℕ → Option ℕ) (round last : ℕ) : Type 0 where
  pub order : round ≤ last
  pub each : (r : ℕ) → round < r → r ≤ last → is_some (ends r) ≡ true
  pub after : is_some (ends (last + 1)) ≡ false

-- more consecutive rounds of one term are there than the limit
abbrev pub HasLongRun : ℕ → (ℕ → ℕ → Bool) → Type 0
HasLongRun limit rounds = (term : ℕ) × (round : ℕ) × ((i : ℕ) → i ≤ limit → rounds term (round + i) ≡ true)

-- that it is a run is one fact, however it was shown
pub IsRun-prop : (ends : ℕ → Option ℕ) (first last : ℕ) → IsProp (IsRun ends first last)
IsRun-prop ends first last = Prim.hlevel props

-- and so is this
pub AreRuns-prop : (ends : ℕ → Option ℕ) → IsProp (AreRuns ends)
AreRuns-prop ends = Prim.hlevel (props, IsRun-prop)

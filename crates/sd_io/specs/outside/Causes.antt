-- How a count of faults shows that the outside failed.
use Rattle.std.specs.Prelude.{◌≡◌, ℕ, ◌+◌, ◌-◌, ◌^◌, ◌≤◌, min, Result, OnOk, OnErr}

-- a count that is kept as a u64, after one more: it stands still at its last value
abbrev pub raised : ℕ → ℕ
raised count = min (count + 1) (2 ^ 64 - 1)

-- a count that is kept as a u64 rose, or stands at its last value
abbrev pub Rose : ℕ → ℕ → Type 0
Rose before now = raised before ≤ now

-- a count that does not fall: it rises where the call fails, and else stays as it was
pub record HasCause {T E : Type 0} (before now : ℕ) (result : Result T E) : Type 0 where
  pub later : before ≤ now
  pub failed : OnErr result (Rose before now)
  pub steady : OnOk result (now ≡ before)

-- a count that does not fall: it rose where a call blames the outside, and else is as before
pub record RisesFor (blamed : Type 0) (before now : ℕ) : Type 0 where
  pub later : before ≤ now
  pub rose : blamed → Rose before now
  pub steady : (blamed → ⊥) → now ≡ before

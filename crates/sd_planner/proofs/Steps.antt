-- What the steps of placing pass on to spreading.
use Rattle.std.proofs.Common.{◌≡◌, ℕ, ◌<◌, inl, inr, Bool, true, false, List, length, map, get_or, Option, sym, ap, ◌∙◌, arith}
use Rattle.std.proofs.lemmas.Bool.{cases_lt}
use Rattle.std.proofs.lemmas.List.{get_or_past}
use Rattle.sd_num.specs.Lists.{below}
use Rattle.sd_plan.proofs.Numbered.{get_or-numbered, length-numbered}
use Rattle.sd_planner.specs.declared.placement.Placed.{Placed}
use Rattle.sd_planner.specs.Spreading.{is_placed, placed_at}

-- a flag that is read tells whether a device may be passed
pub flag_tells : (through : ℕ → Bool) (n : ℕ) (flags : List Bool) → flags ≡ map through (below n) → (d : ℕ) → d < n → get_or flags d false ≡ through d
flag_tells through n flags are d within = ap (λ xs. get_or xs d false) are ∙ get_or-numbered through n d false within

-- none that may be passed has been placed
pub flags_fresh : (through : ℕ → Bool) (n : ℕ) (flags : List Bool) (placed : List Placed) → flags ≡ map through (below n)
    → ((d : ℕ) → through d ≡ true → is_placed placed d ≡ false)
    → (d : ℕ) → get_or flags d false ≡ true → is_placed placed d ≡ false
flags_fresh through n flags placed are fresh d flagged =
    elim (cases_lt d n) [
      | inl within ↦ fresh d (sym (flag_tells through n flags are d within) ∙ flagged)
      | inr past ↦ (let size : length flags ≡ n = ap length are ∙ length-numbered through n in
          let none : get_or flags d false ≡ false = get_or_past flags d false (omega arith) in absurd (cc (none, flagged)))
    ]

pub flags_count : (through : ℕ → Bool) (n : ℕ) (flags : List Bool) → flags ≡ map through (below n) → length flags ≡ n
flags_count through n flags are = ap length are ∙ length-numbered through n

-- a look-up in a list that is known
pub found_there : (list order : List Placed) (seen d : ℕ) (o : Option Placed) → order ≡ list → seen ≡ d → o ≡ placed_at order seen → placed_at list d ≡ o
found_there list order seen d o same is found = ap (placed_at list) (sym is) ∙ ap (λ xs. placed_at xs seen) (sym same) ∙ sym found

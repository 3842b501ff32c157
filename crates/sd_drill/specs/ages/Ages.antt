-- How far a counter may advance while a stretch of the reference passes, and by how much an estimate that is held so long grows.
use Rattle.std.specs.Prelude.{ℕ, ◌+◌, ◌≤◌}
use Rattle.sd_num.specs.Numbers.{grow, low}
use Rattle.sd_num.specs.declared.Rates.{Rates}

-- x is the most by which a counter advances while s of the reference passes
pub record IsOldest (rates : Rates) (s x : ℕ) : Type 0 where
  pub within : low rates x ≤ s
  pub greatest : (y : ℕ) → low rates y ≤ s → y ≤ x

-- how much an estimate that is held for so long grows
abbrev pub ageing : Rates → ℕ → ℕ
ageing rates x = rates.grain + grow rates.ppm x

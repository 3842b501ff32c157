-- The files of a command with plans, cut after the first and before the last.
use Rattle.std.proofs.Common.{◌≡◌, ℕ, ◌-◌, ◌≤◌, List, [], ◌∷◌, length, map, take, drop, refl, ap, ◌∙◌, arith}
use Rattle.std.proofs.Math.ListN.{get_or}
use Rattle.sd_top.specs.Words.{but_last, over_plans, with_plans}

module _ {X : Type 0} (bytes : X → List ℕ) where
  -- all but the last, and the last
  cut : (x : X) (xs : List X) (d : X) → but_last (bytes x) (map bytes xs) ≡ (map bytes (take (length xs) (x ∷ xs)), bytes (get_or (x ∷ xs) (length xs) d))
  cut x [] d = refl
  cut x (y ∷ ys) d = rw (cut y ys d) refl

  pub files_cut : (word : List ℕ) (files : List X) (topology schedule : X) → 2 ≤ length files → topology ≡ get_or files 0 topology
      → schedule ≡ get_or files (length files - 1) schedule
      → over_plans word (bytes topology) (map bytes (take (length files - 1 - 1) (drop 1 files))) (bytes schedule) ≡ with_plans word (map bytes files)
  files_cut word [] topology schedule long first last = absurd (omega arith)
  files_cut word (x ∷ []) topology schedule long first last = absurd (omega arith)
  files_cut word (x ∷ y ∷ ys) topology schedule long first last =
      let count : length (x ∷ y ∷ ys) - 1 ≡ length (y ∷ ys) = omega arith in
      let plans : length (x ∷ y ∷ ys) - 1 - 1 ≡ length ys = omega arith in
      let named : schedule ≡ get_or (y ∷ ys) (length ys) schedule = last ∙ ap (λ (n : ℕ). get_or (x ∷ y ∷ ys) n schedule) count in
      rw (first, plans, named, cut y ys schedule) refl

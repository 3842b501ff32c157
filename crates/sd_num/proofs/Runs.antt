-- A list in which each element leads to the next, and the last only to one that was there before, is settled by its first element.
use Rattle.std.proofs.Common.{◌≡◌, ℕ, List, [], ◌∷◌, ◌⊎◌, refl, subst}

-- the number was seen before, or it is this one
abbrev pub SeenWith : (ℕ → Type 0) → ℕ → ℕ → Type 0
SeenWith Seen x z = Seen z ⊎ (x ≡ z)

-- each element leads to the next, which was not seen, and the last leads to none but those that were
abbrev pub IsRun : (ℕ → ℕ → Type 0) → (ℕ → Type 0) → List ℕ → Type 0
IsRun Leads Seen [] = ⊥
IsRun Leads Seen (x ∷ []) = (y : ℕ) → Leads x y → SeenWith Seen x y
IsRun Leads Seen (x ∷ y ∷ ys) = Leads x y × (SeenWith Seen x y → ⊥) × IsRun Leads (SeenWith Seen x) (y ∷ ys)

-- where each number leads to one at most, two runs that begin alike are the same
pub same_run : (Leads : ℕ → ℕ → Type 0) → ((x y z : ℕ) → Leads x y → Leads x z → y ≡ z)
    → (Seen : ℕ → Type 0) (x : ℕ) (xs ys : List ℕ) → IsRun Leads Seen (x ∷ xs) → IsRun Leads Seen (x ∷ ys) → xs ≡ ys
same_run Leads one Seen x [] [] a b = refl
same_run Leads one Seen x [] (y ∷ ys) a b = absurd (b.1 (a y b.0))
same_run Leads one Seen x (y ∷ ys) [] a b = absurd (a.1 (b y a.0))
same_run Leads one Seen x (y ∷ ys) (z ∷ zs) a b =
    let same : z ≡ y = one x z y b.0 a.0 in
    let rest : IsRun Leads (SeenWith Seen x) (y ∷ zs) = subst (λ (v : ℕ). IsRun Leads (SeenWith Seen x) (v ∷ zs)) same b.2 in
    let tails = same_run Leads one (SeenWith Seen x) y ys zs a.2 rest in
    cc

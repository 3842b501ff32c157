-- What stands at the places that pass a test.
use Rattle.std.proofs.Common.{◌≡◌, ℕ, zero, suc, ◌<◌, ◌≤◌, Bool, true, false, cond, List, [], ◌∷◌, ◌++◌, length, map, filter, take, drop, get_or, refl, sym, ap, ◌∙◌, inl, inr, arith, add-one, append_assoc}
use Rattle.std.specs.List.{slice_range}
use Rattle.std.proofs.lemmas.Bool.{cases_lt}
use Rattle.std.proofs.lemmas.List.{map-append, append-nil, take_more, drop-append-le, length-take-le, drop_all}
use Rattle.std.proofs.lemmas.List.Elements.{filter-append}
use Rattle.std.proofs.lemmas.Slice.{between_is}
use Rattle.sd_num.specs.Lists.{below}
use Rattle.sd_checker.specs.check_hit.Spans.{picked}

-- one more place
pub picked_more : (order : List ℕ) (p : ℕ → Bool) (k : ℕ) → picked order p (suc k) ≡ picked order p k ++ cond (p k) (get_or order k 0 ∷ []) []
picked_more order p k =
    ap (map (λ x. get_or order x 0)) (filter-append p (below k) (k ∷ []))
    ∙ map-append (λ x. get_or order x 0) (filter p (below k)) (filter p (k ∷ []))
    ∙ ap (λ last. picked order p k ++ last) (by_test (p k))
  where
    by_test : (t : Bool) → map (λ x. get_or order x 0) (cond t (k ∷ []) []) ≡ cond t (get_or order k 0 ∷ []) []
    by_test true = refl
    by_test false = refl

-- tests that agree below n pick the same
pub picked_agree : (order : List ℕ) (p q : ℕ → Bool) (n : ℕ) → ((x : ℕ) → x < n → p x ≡ q x) → picked order p n ≡ picked order q n
picked_agree order p q zero same = refl
picked_agree order p q (suc n) same =
    picked_more order p n
    ∙ ap (λ front. front ++ cond (p n) (get_or order n 0 ∷ []) []) (picked_agree order p q n (λ x before. same x (omega arith)))
    ∙ ap (λ t. picked order q n ++ cond t (get_or order n 0 ∷ []) []) (same n (omega arith))
    ∙ sym (picked_more order q n)

-- places that fail change nothing
pub picked_skip : (order : List ℕ) (p : ℕ → Bool) (m n : ℕ) → m ≤ n → ((x : ℕ) → m ≤ x → x < n → p x ≡ false) → picked order p n ≡ picked order p m
picked_skip order p m zero up fails = let same : m ≡ 0 = omega arith in rw same refl
picked_skip order p m (suc n) up fails =
    elim (cases_lt n m) [
      | inl last ↦ (let same : m ≡ suc n = omega arith in rw same refl)
      | inr more ↦
          picked_more order p n
          ∙ ap (λ t. picked order p n ++ cond t (get_or order n 0 ∷ []) []) (fails n more (omega arith))
          ∙ append-nil (picked order p n)
          ∙ picked_skip order p m n more (λ x from before. fails x from (omega arith))
    ]

-- places that pass add a part of the list
pub picked_part : (order : List ℕ) (p : ℕ → Bool) (a b : ℕ) → a ≤ b → b ≤ length order → ((x : ℕ) → a ≤ x → x < b → p x ≡ true)
    → picked order p b ≡ picked order p a ++ drop a (take b order)
picked_part order p a zero up within passes =
    let same : a ≡ 0 = omega arith in rw same (sym (append-nil (picked order p 0)))
picked_part order p a (suc b) up within passes =
    elim (cases_lt b a) [
      | inl last ↦
          (let same : a ≡ suc b = omega arith in
          let nothing : drop (suc b) (take (suc b) order) ≡ [] = drop_all (suc b) (take (suc b) order) (omega (arith, length-take-le (suc b) order within)) in
          rw (same, nothing) (sym (append-nil (picked order p (suc b)))))
      | inr more ↦
          picked_more order p b
          ∙ ap (λ t. picked order p b ++ cond t (get_or order b 0 ∷ []) []) (passes b more (omega arith))
          ∙ ap (λ front. front ++ get_or order b 0 ∷ []) (picked_part order p a b more (omega arith) (λ x from before. passes x from (omega arith)))
          ∙ append_assoc (picked order p a) (drop a (take b order)) (get_or order b 0 ∷ [])
          ∙ ap (λ part. picked order p a ++ part)
          (sym (ap (drop a) (rw add-one at (take_more order b 0 (omega arith)))
          ∙ drop-append-le a (take b order) (get_or order b 0 ∷ []) (omega (arith, length-take-le b order (omega arith)))))
    ]

-- the same, as a slice
pub picked_slice : (order : List ℕ) (p : ℕ → Bool) (a b : ℕ) → a ≤ b → b ≤ length order → ((x : ℕ) → a ≤ x → x < b → p x ≡ true)
    → picked order p b ≡ picked order p a ++ slice_range order a b
picked_slice order p a b up within passes = picked_part order p a b up within passes ∙ ap (λ part. picked order p a ++ part) (sym (between_is order a b))

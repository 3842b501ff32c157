-- Lists of domains, a domain at a time.
use Rattle.std.proofs.Common.{◌≡◌, ℕ, ◌+◌, ◌<◌, Bool, true, false, ◌&&◌, ◌||◌, List, [], ◌∷◌, ◌++◌, length, take, nat_eq, get_or, set, refl, sym, ap, ◌∙◌, inl, inr}
use Rattle.std.proofs.lemmas.Bool.{cases_eq, ne_eqb, eq-eqb}
use Rattle.std.proofs.lemmas.List.{get_or-set_same, get_or-set_other, take_more}
use Rattle.sd_num.specs.Lists.{has}
use Rattle.sd_num.proofs.Places.{has_more}
use Rattle.sd_plan.specs.Subtrees.{listed}
use Rattle.sd_plan.proofs.Forest.{or_none}

-- a thing more has the domain
pub thing_more : (lists old : List (List ℕ)) (more : List ℕ) (domain : ℕ) (things : List ℕ) (i : ℕ) → i < length things → get_or things i 0 < length lists
    → ((x k : ℕ) → has (listed lists x) k ≡ (has (listed old x) k || (nat_eq k domain && has (take i things) x)))
    → more ≡ listed lists (get_or things i 0) ++ domain ∷ []
    → (x k : ℕ) → has (listed (set lists (get_or things i 0) more) x) k ≡ (has (listed old x) k || (nat_eq k domain && has (take (i + 1) things) x))
thing_more lists old more domain things i within inside so_far pushed x k =
    let y = get_or things i 0 in
    let taken : has (take (i + 1) things) x ≡ (has (take i things) x || nat_eq x y) =
    ap (λ xs. has xs x) (take_more things i 0 within) ∙ has_more (take i things) y x in
    elim (cases_eq x y) [
      | inl same ↦
          ap (λ z. has (listed (set lists y more) z) k) same ∙ ap (λ xs. has xs k) (get_or-set_same lists y more [] inside ∙ pushed)
          ∙ has_more (listed lists y) domain k
          ∙ ap (λ z. has (listed lists z) k || nat_eq k domain) (sym same)
          ∙ ap (λ t. t || nat_eq k domain) (so_far x k)
          ∙ joined (has (listed old x) k) (nat_eq k domain) (has (take i things) x)
          ∙ sym (ap (λ t. has (listed old x) k || (nat_eq k domain && t)) (taken ∙ ap (λ t. has (take i things) x || t) (eq-eqb x y same)))
      | inr apart ↦
          ap (λ xs. has xs k) (get_or-set_other lists y x more [] apart) ∙ so_far x k
          ∙ sym (ap (λ t. has (listed old x) k || (nat_eq k domain && t))
          (taken ∙ ap (λ t. has (take i things) x || t) (ne_eqb x y apart) ∙ or_none (has (take i things) x)))
    ]
  where
    joined : (a e t : Bool) → ((a || (e && t)) || e) ≡ (a || (e && (t || true)))
    joined true e t = refl
    joined false true true = refl
    joined false true false = refl
    joined false false t = refl

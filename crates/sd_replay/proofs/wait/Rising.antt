-- Lists of transactions with the same sums, of which one rises strictly by place and the other does not fall, are the same.
use Rattle.std.specs.Prelude.{◌≡◌, ℕ, zero, suc, ◌<◌, ◌≤◌, Bool, true, false, ◌&&◌, List, [], ◌∷◌, ◌++◌, length, All, nat_eq, sum_by, if◌then◌else◌}
use Rattle.std.specs.List.Sorted.{IsNonDecreasingBy}
use Rattle.std.proofs.Common.{refl, sym, ap, ◌∙◌, arith, get_or}
use Rattle.std.proofs.lemmas.Bool.{and_parts, and_from, eqb-true, eq-eqb}
use Rattle.std.proofs.lemmas.List.Sums.{sum_by-cons}
use Rattle.std.proofs.lemmas.List.Elements.{All-head, All-tail, All-push}
use Rattle.sd_replay.specs.wait.Waiting.{HaveSameSums}
use Rattle.sd_replay.specs.declared.wait.transactions.Transaction.{Transaction}

-- all have greater places
abbrev pub AllAbove : ℕ → List Transaction → Type 0
AllAbove place ts = All (λ (t : Transaction). place < t.place) ts

-- by place, strictly
abbrev pub Rises : List Transaction → Type 0
Rises [] = Unit {0}
Rises (t ∷ ts) = AllAbove t.place ts × Rises ts

-- one more, with a greater place than all
pub rises_push : (ts : List Transaction) (t : Transaction) → Rises ts → All (λ (u : Transaction). u.place < t.place) ts → Rises (ts ++ t ∷ [])
rises_push [] t up below = (λ k d within. absurd (omega arith), tt)
rises_push (u ∷ us) t up below = (
  All-push (λ (z : Transaction). u.place < z.place) us t up.0 (All-head (λ (z : Transaction). z.place < t.place) u us below),
  rises_push us t up.1
      (All-tail (λ (z : Transaction). z.place < t.place) u us below),
)

-- the two are the same
abbrev same : Transaction → Transaction → Bool
same t u = nat_eq t.device u.device && nat_eq t.stamp u.stamp && nat_eq t.place u.place && nat_eq t.line u.line

abbrev pub made : ℕ → ℕ → ℕ → ℕ → Transaction
made device stamp place line = record { device = device; stamp = stamp; place = place; line = line }

same_is : (t u : Transaction) → same t u ≡ true → t ≡ u
same_is t u is =
    let fourth = and_parts (nat_eq t.device u.device && nat_eq t.stamp u.stamp && nat_eq t.place u.place) (nat_eq t.line u.line) is in
    let third = and_parts (nat_eq t.device u.device && nat_eq t.stamp u.stamp) (nat_eq t.place u.place) fourth.0 in
    let parts = and_parts (nat_eq t.device u.device) (nat_eq t.stamp u.stamp) third.0 in
    let device : t.device ≡ u.device = eqb-true t.device u.device parts.0 in
    let stamp : t.stamp ≡ u.stamp = eqb-true t.stamp u.stamp parts.1 in
    let place : t.place ≡ u.place = eqb-true t.place u.place third.1 in
    let line : t.line ≡ u.line = eqb-true t.line u.line fourth.1 in
    ap (λ n. made n t.stamp t.place t.line) device ∙ ap (λ n. made u.device n t.place t.line) stamp ∙ ap (λ n. made u.device u.stamp n t.line) place
    ∙ ap (λ n. made u.device u.stamp u.place n) line

is_same : (t : Transaction) → same t t ≡ true
is_same t =
    and_from (nat_eq t.device t.device && nat_eq t.stamp t.stamp && nat_eq t.place t.place) (nat_eq t.line t.line)
    (and_from (nat_eq t.device t.device && nat_eq t.stamp t.stamp) (nat_eq t.place t.place)
    (and_from (nat_eq t.device t.device) (nat_eq t.stamp t.stamp) (eq-eqb t.device t.device refl) (eq-eqb t.stamp t.stamp refl)) (eq-eqb t.place t.place refl))
    (eq-eqb t.line t.line refl)

abbrev one : Transaction → Transaction → ℕ
one t u = if same t u then 1 else 0

-- one that counts stands somewhere
some_there : (t d : Transaction) (ts : List Transaction) → 0 < sum_by (one t) ts → (k : ℕ) × (k < length ts) × (get_or ts k d ≡ t)
some_there t d [] some = absurd (omega arith)
some_there t d (u ∷ us) some = by (same t u) refl (λ more. some_there t d us more)
  where
    later : ((k : ℕ) × (k < length us) × (get_or us k d ≡ t)) → (k : ℕ) × (k < length (u ∷ us)) × (get_or (u ∷ us) k d ≡ t)
    later there = (suc there.0, omega (arith, there.1), there.2)

    by : (b : Bool) → same t u ≡ b → (0 < sum_by (one t) us → (k : ℕ) × (k < length us) × (get_or us k d ≡ t))
        → (k : ℕ) × (k < length (u ∷ us)) × (get_or (u ∷ us) k d ≡ t)
    by true is rest = (0, omega arith, sym (same_is t u is))
    by false isnt rest =
        let none : one t u ≡ 0 = ap (λ b. if b then 1 else 0) isnt in
        later (rest (omega (arith, sum_by-cons (one t) u us, none)))

at_all : (P : Transaction → Type 0) (ts : List Transaction) (k : ℕ) (d : Transaction) → All P ts → k < length ts → P (get_or ts k d)
at_all P [] k d all within = absurd (omega arith)
at_all P (t ∷ ts) zero d all within = All-head P t ts all
at_all P (t ∷ ts) (suc k) d all within = at_all P ts k d (All-tail P t ts all) (omega arith)

tail_rises : (t : Transaction) (ts : List Transaction) → IsNonDecreasingBy (λ (u : Transaction). u.place) (t ∷ ts)
    → IsNonDecreasingBy (λ (u : Transaction). u.place) ts
tail_rises t ts up i j d order within = up (suc i) (suc j) d (omega arith) (omega arith)

pub same_rise : (ts us : List Transaction) → Rises ts → IsNonDecreasingBy (λ (t : Transaction). t.place) us → HaveSameSums ts us → ts ≡ us
same_rise [] [] up order sums = refl
same_rise [] (u ∷ us) up order sums = absurd (omega (arith, sums (λ t. 1), sum_by-cons (λ (t : Transaction). 1) u us))
same_rise (t ∷ ts) [] up order sums = absurd (omega (arith, sums (λ t. 1), sum_by-cons (λ (t : Transaction). 1) t ts))
same_rise (t ∷ ts) (u ∷ us) up order sums =
    let first : t ≡ u = same_first in
    let rest : ts ≡ us =
    same_rise ts us up.1 (tail_rises u us order) (λ f. let equal : f t ≡ f u = ap f first in
    omega (arith, sums f, sum_by-cons f t ts, sum_by-cons f u us)) in
    cc
  where
    one_is : (z : Transaction) → one z z ≡ 1
    one_is z = ap (λ b. if b then 1 else 0) (is_same z)

    same_first : t ≡ u
    same_first =
        let t_there = some_there t u (u ∷ us) (omega (arith, sums (one t), sum_by-cons (one t) t ts, one_is t)) in
        let u_there = some_there u t (t ∷ ts) (omega (arith, sums (one u), sum_by-cons (one u) u us, one_is u)) in
        let least : u.place ≤ (get_or (u ∷ us) t_there.0 u).place = order 0 t_there.0 u (omega arith) t_there.1 in
        let less : u.place ≤ t.place = omega (arith, least, ap (λ (z : Transaction). z.place) t_there.2) in
        by u_there.0 u_there.1 u_there.2 less
      where
        by : (k : ℕ) → k < length (t ∷ ts) → get_or (t ∷ ts) k t ≡ u → u.place ≤ t.place → t ≡ u
        by zero within at less = at
        by (suc k) within at less =
            let above : t.place < (get_or ts k t).place = at_all (λ (z : Transaction). t.place < z.place) ts k t up.0 (omega arith) in
            absurd (omega (arith, above, ap (λ (z : Transaction). z.place) at))

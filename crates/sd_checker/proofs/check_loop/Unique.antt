-- At most one cycle is shown.
-- A cycle with what leads to it is a run: each device leads to the least endless one, and the last to one that was there before.
-- Runs that begin alike are the same, and the device that comes again says where the cycle begins.
use Rattle.std.proofs.Common.{◌≡◌, ℕ, Bool, true, false, ◌||◌, ◌⊎◌, List, [], ◌∷◌, ◌++◌, nat_eq, refl, sym, ap, ◌∙◌, subst, inl, inr, arith}
use Rattle.std.proofs.lemmas.Bool.{eq-eqb, eqb-true, or_cases, or_left, or_right, not-true, cases_lt}
use Rattle.sd_num.specs.Lists.{has}
use Rattle.sd_num.proofs.Runs.{IsRun, SeenWith, same_run}
use Rattle.sd_plan.specs.topo.Network.{Network}
use Rattle.sd_plan.specs.declared.domain.DomainId.{DomainId}
use Rattle.sd_plan.specs.declared.Plan.{Plan}
use Rattle.sd_checker.specs.check_loop.ShownCycles.{IsLeast, IsEndless, IsNextShown, IsChain, IsFirstOf, AreDifferent, ShowsCycle}

-- there is at most one least number with a property
pub one_least : (P : ℕ → Type 0) (x y : ℕ) → IsLeast P x → IsLeast P y → x ≡ y
one_least P x y a b =
    elim (cases_lt x y) [
      | inl before ↦ absurd (b.1 x before a.0)
      | inr after ↦ elim (cases_lt y x) [ inl behind ↦ absurd (a.1 y behind b.0) | inr within ↦ omega arith ]
    ]

-- devices that lead on, one to the next, with the one that comes again, are a run
run_of : (R : ℕ → ℕ → Type 0) → ((x y z : ℕ) → R x y → R x z → y ≡ z)
    → (Seen : ℕ → Type 0) (x : ℕ) (xs : List ℕ) (again : ℕ) → IsChain R (x ∷ (xs ++ again ∷ [])) → AreDifferent (x ∷ xs)
    → ((z : ℕ) → Seen z → has (x ∷ xs) z ≡ false) → Seen again ⊎ (has (x ∷ xs) again ≡ true) → IsRun R Seen (x ∷ xs)
run_of R one Seen x [] again chain different apart there = λ y leads.
    let same : again ≡ y = one x again y chain.0 leads in
    elim there [
      | inl seen ↦ inl (subst Seen same seen)
      | inr here ↦ (elim (or_cases (nat_eq again x) false here) [ inl is ↦ inr (sym (eqb-true again x is) ∙ same) | inr never ↦ cc ])
    ]
run_of R one Seen x (y ∷ ys) again chain different apart there =
    let new : has (y ∷ ys) x ≡ false = not-true (has (y ∷ ys) x) different.0 in
    let here : has (y ∷ ys) y ≡ true = or_left (nat_eq y y) (has ys y) (eq-eqb y y refl) in
    let whole : has (x ∷ y ∷ ys) y ≡ true = or_right (nat_eq y x) (has (y ∷ ys) y) here in (
      chain.0,
      λ seen. elim seen [
        | inl before ↦ (let not_there = apart y before in
            cc)
        | inr same ↦ (let gone : has (y ∷ ys) y ≡ false = ap (has (y ∷ ys)) (sym same) ∙ new in cc)
      ],
      run_of R one (SeenWith Seen x) y ys again chain.1 different.1
          (λ z seen. elim seen [ inl before ↦ later z (apart z before) | inr same ↦ ap (has (y ∷ ys)) (sym same) ∙ new ])
          (elim there [
            | inl before ↦ inl (inl before)
            | inr found ↦ (elim (or_cases (nat_eq again x) (has (y ∷ ys) again) found) [ inl is ↦ inl (inr (sym (eqb-true again x is))) | inr more ↦ inr more ])
          ]),
    )
  where
    later : (z : ℕ) → has (x ∷ y ∷ ys) z ≡ false → has (y ∷ ys) z ≡ false
    later z none = by (nat_eq z x) (has (y ∷ ys) z) none
      where
        by : (a b : Bool) → (a || b) ≡ false → b ≡ false
        by true b none = cc
        by false b none = none

-- a chain goes from its last element but one to its last
last_of : (R : ℕ → ℕ → Type 0) → ((x y z : ℕ) → R x y → R x z → y ≡ z) → (x : ℕ) (xs : List ℕ) (a b : ℕ) → IsChain R (x ∷ (xs ++ a ∷ []))
    → IsChain R (x ∷ (xs ++ b ∷ [])) → a ≡ b
last_of R one x [] a b to_a to_b = one x a b to_a.0 to_b.0
last_of R one x (y ∷ ys) a b to_a to_b = last_of R one y ys a b to_a.1 to_b.1

has_later : (lead others : List ℕ) (x : ℕ) → has (lead ++ x ∷ others) x ≡ true
has_later [] others x = or_left (nat_eq x x) (has others x) (eq-eqb x x refl)
has_later (l ∷ ls) others x = or_right (nat_eq x l) (has (ls ++ x ∷ others) x) (has_later ls others x)

tail_same : (x y : ℕ) (xs ys : List ℕ) → x ∷ xs ≡ y ∷ ys → (x ≡ y) × (xs ≡ ys)
tail_same x y xs ys same = (cc, cc)

-- where no number comes twice a number parts a list in one way
one_part : (x : ℕ) (lead lead' others others' : List ℕ) → lead ++ x ∷ others ≡ lead' ++ x ∷ others' → AreDifferent (lead ++ x ∷ others) → others ≡ others'
one_part x [] [] others others' same different = (tail_same x x others others' same).1
one_part x [] (l ∷ ls) others others' same different =
    let parts = tail_same x l others (ls ++ x ∷ others') same in
    let there : has others x ≡ true = ap (λ (xs : List ℕ). has xs x) parts.1 ∙ has_later ls others' x in
    let gone : has others x ≡ false = not-true (has others x) different.0 in
    cc
one_part x (l ∷ ls) [] others others' same different =
    let parts = tail_same l x (ls ++ x ∷ others) others' same in
    let gone : has (ls ++ x ∷ others) l ≡ false = not-true (has (ls ++ x ∷ others) l) different.0 in
    let there : has (ls ++ x ∷ others) l ≡ true = ap (has (ls ++ x ∷ others)) parts.0 ∙ has_later ls others x in
    cc
one_part x (l ∷ ls) (m ∷ ms) others others' same different =
    one_part x ls ms others others' (tail_same l m (ls ++ x ∷ others) (ms ++ x ∷ others') same).1 different.1

-- a way to a cycle and round it, as its first device and the rest
record IsWay (R : ℕ → ℕ → Type 0) (P : ℕ → Type 0) (lead : List ℕ) (first : ℕ) (others : List ℕ) : Type 0 where
  begin : ℕ
  rest : List ℕ
  whole : lead ++ first ∷ others ≡ begin ∷ rest
  least : P begin
  chain : IsChain R (begin ∷ (rest ++ first ∷ []))
  run : IsRun R (λ z. ⊥) (begin ∷ rest)

way_of : (R : ℕ → ℕ → Type 0) → ((x y z : ℕ) → R x y → R x z → y ≡ z) → (P : ℕ → Type 0) (lead : List ℕ) (first : ℕ) (others : List ℕ)
    → IsFirstOf (lead ++ first ∷ others) P → IsChain R (lead ++ (first ∷ others) ++ first ∷ []) → AreDifferent (lead ++ first ∷ others)
    → IsWay R P lead first others
way_of R one P lead first others begins goes_on once =
    by_whole (lead ++ first ∷ others) refl begins goes_on once (has_later lead others first)
  where
    by_whole : (xs : List ℕ) → lead ++ first ∷ others ≡ xs → IsFirstOf xs P → IsChain R (xs ++ first ∷ []) → AreDifferent xs → has xs first ≡ true
        → IsWay R P lead first others
    by_whole [] is begins chain different there = absurd begins
    by_whole (x ∷ xs) is begins chain different there =
        record {
          begin = x;
          rest = xs;
          whole = is;
          least = begins;
          chain = chain;
          run = run_of R one (λ z. ⊥) x xs first chain different (λ z seen. absurd seen) (inr there);
        }

-- there is at most one cycle to be shown
pub one_cycle : (net : Network) (plan : Plan) (domain : DomainId) (a b : List ℕ) → ShowsCycle net plan domain a → ShowsCycle net plan domain b → a ≡ b
one_cycle net plan domain [] b shown other = absurd shown
one_cycle net plan domain (x ∷ xs) [] shown other = absurd other
one_cycle net plan domain (x ∷ xs) (y ∷ ys) shown other =
    let R : ℕ → ℕ → Type 0 = IsNextShown net plan domain in
    let one : (d e g : ℕ) → R d e → R d g → e ≡ g = λ d e g to also. one_least _ e g to also in
    let way = way_of R one (IsLeast (IsEndless net plan domain)) shown.lead x xs shown.begins shown.goes_on shown.once in
    let way' = way_of R one (IsLeast (IsEndless net plan domain)) other.lead y ys other.begins other.goes_on other.once in
    let begin : way'.begin ≡ way.begin = one_least (IsEndless net plan domain) way'.begin way.begin way'.least way.least in
    let run' : IsRun R (λ z. ⊥) (way.begin ∷ way'.rest) = subst (λ (v : ℕ). IsRun R (λ z. ⊥) (v ∷ way'.rest)) begin way'.run in
    let rest : way.rest ≡ way'.rest = same_run R one (λ z. ⊥) way.begin way.rest way'.rest way.run run' in
    let chain' : IsChain R (way.begin ∷ (way.rest ++ y ∷ [])) =
    subst (λ (v : ℕ). IsChain R (v ∷ (way.rest ++ y ∷ []))) begin
    (subst (λ (vs : List ℕ). IsChain R (way'.begin ∷ (vs ++ y ∷ []))) (sym rest) way'.chain) in
    let first : y ≡ x = last_of R one way.begin way.rest y x chain' way.chain in
    let whole : shown.lead ++ x ∷ xs ≡ other.lead ++ y ∷ ys =
    way.whole ∙ ap (λ (v : ℕ). v ∷ way.rest) (sym begin) ∙ ap (λ (vs : List ℕ). way'.begin ∷ vs) rest ∙ sym way'.whole in
    let alike : shown.lead ++ x ∷ xs ≡ other.lead ++ x ∷ ys = subst (λ (v : ℕ). shown.lead ++ x ∷ xs ≡ other.lead ++ v ∷ ys) first whole in
    let others = one_part x shown.lead other.lead xs ys alike shown.once in
    cc

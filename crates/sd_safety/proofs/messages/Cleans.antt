-- Among K + 1 consecutive rounds of a term one is not spoiled, at each event; and a round that is spoiled stays so.
use Rattle.std.specs.Prelude.{◌≡◌, ℕ, zero, suc, ◌+◌, ◌<◌, ◌≤◌, Bool, true, false, not, List, [], ◌∷◌, ◌++◌, nat_eq, ◌⊎◌, refl}
use Rattle.std.specs.List.{list_any, list_all}
use Rattle.std.proofs.Common.{arith, sym, ◌∙◌, subst, inl, inr, add-one}
use Rattle.std.proofs.lemmas.Bool.{and_parts, and_from, eqb-true, not-true, or_cases}
use Rattle.sd_num.specs.Lists.{below}
use Rattle.sd_device.specs.declared.msg.Stamp.{Stamp}
use Rattle.sd_history.specs.World.{Setting, Seen}
use Rattle.sd_history.specs.Premises.{spoiled_rounds, is_round, all_from, loss_holds}
use Rattle.sd_history.proofs.Among.{Among, first, later, passes}
use Rattle.sd_history.specs.Rounds.{is_spoiled}

all_and : (test : ℕ → Bool) (xs : List ℕ) (x : ℕ) → list_all test xs ≡ true → test x ≡ true → list_all test (xs ++ x ∷ []) ≡ true
all_and test [] x all holds = and_from (test x) true holds refl
all_and test (y ∷ ys) x all holds =
    let parts = and_parts (test y) (list_all test ys) all in
    and_from (test y) (list_all test (ys ++ x ∷ [])) parts.0 (all_and test ys x parts.1 holds)

-- all below pass, or one does not
pub record Fails (test : ℕ → Bool) (n : ℕ) : Type 0 where
  pub place : ℕ
  pub below_ : place < n
  pub fails : test place ≡ false

search_one : (test : ℕ → Bool) (n : ℕ) (b : Bool) → test n ≡ b → (list_all test (below n) ≡ true) ⊎ Fails test n
    → (list_all test (below n ++ n ∷ []) ≡ true) ⊎ Fails test (suc n)
search_one test n b is (inr found) = let less = found.below_ in inr (record { place = found.place; below_ = omega (arith, less); fails = found.fails })
search_one test n true is (inl all) = inl (all_and test (below n) n all is)
search_one test n false is (inl all) = inr (record { place = n; below_ = omega arith; fails = is })

pub search_below : (test : ℕ → Bool) (n : ℕ) → (list_all test (below n) ≡ true) ⊎ Fails test n
search_below test zero = inl refl
search_below test (suc n) = search_one test n (test n) refl (search_below test n)

zero_below : (n : ℕ) → Among 0 (below (suc n))
zero_below zero = first
zero_below (suc n) = to_left (below (suc n)) (suc n ∷ []) (zero_below n)
  where
    to_left : {x : ℕ} (xs ys : List ℕ) → Among x xs → Among x (xs ++ ys)
    to_left xs ys (first {xs = zs}) = first
    to_left xs ys (later {y = y} {xs = zs} a) = later (to_left zs ys a)

-- a round that is among them
record Found (rounds : List Stamp) (term round : ℕ) : Type 0 where
  stamp : Stamp
  among : Among stamp rounds
  term_is : stamp.term ≡ term
  round_is : stamp.round ≡ round

found_by : (x : Stamp) (xs : List Stamp) (term round : ℕ) → (is_round x term round ≡ true) ⊎ (list_any (λ other. is_round other term round) xs ≡ true)
    → (list_any (λ other. is_round other term round) xs ≡ true → Found xs term round) → Found (x ∷ xs) term round
found_by x xs term round (inl here) rest =
    let parts = and_parts (nat_eq x.term term) (nat_eq x.round round) here in
    record { stamp = x; among = first; term_is = eqb-true x.term term parts.0; round_is = eqb-true x.round round parts.1 }
found_by x xs term round (inr there) rest =
    let f = rest there in
    record { stamp = f.stamp; among = later f.among; term_is = f.term_is; round_is = f.round_is }

found_round : (rounds : List Stamp) (term round : ℕ) → list_any (λ other. is_round other term round) rounds ≡ true → Found rounds term round
found_round [] term round any = cc
found_round (x ∷ xs) term round any =
    found_by x xs term round (or_cases (is_round x term round) (list_any (λ other. is_round other term round) xs) any) (found_round xs term round)

-- Lemma 12
pub record Clean (setting : Setting) (seen : List Seen) (term round : ℕ) : Type 0 where
  pub place : ℕ
  pub within : place ≤ setting.net.params.loss
  pub clean : is_spoiled seen term (round + place) ≡ false

pub not_all : (rounds : List Stamp) (term round k : ℕ) → list_all (λ r. not (all_from rounds r.term r.round (k + 1))) rounds ≡ true
    → list_all (λ i. list_any (λ other. is_round other term (round + i)) rounds) (below (suc k)) ≡ true → ⊥
not_all rounds term round k holds all =
    let some : list_any (λ other. is_round other term (round + 0)) rounds ≡ true =
    passes (λ i. list_any (λ other. is_round other term (round + i)) rounds) (zero_below k) all in
    let f : Found rounds term (round + 0) = found_round rounds term (round + 0) some in
    let fine : not (all_from rounds f.stamp.term f.stamp.round (k + 1)) ≡ true = passes (λ r. not (all_from rounds r.term r.round (k + 1))) f.among holds in
    let round_is : f.stamp.round ≡ round = f.round_is ∙ omega arith in
    let here : not (all_from rounds term round (k + 1)) ≡ true =
    subst (λ n. not (all_from rounds term n (k + 1)) ≡ true) round_is (subst (λ t. not (all_from rounds t f.stamp.round (k + 1)) ≡ true) f.term_is fine) in
    let none : all_from rounds term round (suc k) ≡ false =
    not-true (all_from rounds term round (suc k)) (subst (λ n. not (all_from rounds term round n) ≡ true) (add-one k) here) in
    let clash : true ≡ false = sym all ∙ none in
    cc

pub one_is_clean : (setting : Setting) (seen : List Seen) (term round : ℕ) → loss_holds setting seen ≡ true → Clean setting seen term round
one_is_clean setting seen term round holds = by_search (search_below (λ i. is_spoiled seen term (round + i)) (suc setting.net.params.loss))
  where
    by_search : (list_all (λ i. is_spoiled seen term (round + i)) (below (suc setting.net.params.loss)) ≡ true)
        ⊎ Fails (λ i. is_spoiled seen term (round + i)) (suc setting.net.params.loss) → Clean setting seen term round
    by_search (inl all) = absurd (not_all (spoiled_rounds seen) term round setting.net.params.loss holds all)
    by_search (inr found) = let less = found.below_ in record { place = found.place; within = omega (arith, less); clean = found.fails }

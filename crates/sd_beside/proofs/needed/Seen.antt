-- A ring of parents is a loop that is seen: following parents comes back within as many steps as there are devices.
use Rattle.std.specs.Prelude.{◌≡◌, ℕ, zero, suc, ◌+◌, ◌<◌, ◌≤◌, Bool, true, false, not, List, [], ◌∷◌, ◌++◌, length, filter, nat_eq, Option, Some, None, refl, if◌then◌else◌}
use Rattle.std.proofs.Common.{sym, ap, ◌∙◌, subst, arith}
use Rattle.std.proofs.lemmas.Bool.{and_parts, or_left, or_parts, eqb-true, eqb-false, eq-eqb, both_ways, not-true, false_from_ne_true}
use Rattle.sd_num.specs.Lists.{has, same_number, follow}
use Rattle.sd_plan.specs.topo.Network.{Network, device_numbers}
use Rattle.sd_plan.specs.declared.Plan.{Plan}
use Rattle.sd_checker.specs.check_loop.ShownCycles.{IsChain, AreDifferent}
use Rattle.sd_num.proofs.Shared.{follow_first}
use Rattle.sd_history.specs.World.{is_up, is_counted, alone}
use Rattle.sd_history.specs.Steps.{seen_of, parent_in}
use Rattle.sd_history.specs.Chronicle.{chronicle}
use Rattle.sd_history.specs.Lines.{counted_parent, is_on_loop}
use Rattle.sd_history.proofs.Known.{up_is_known}
use Rattle.sd_history.proofs.Shared.{among_below}
use Rattle.sd_beside.specs.needed.Loops.{LoopIsSeen}
use Rattle.sd_beside.proofs.needed.Elements.{found_some, any_of, kept_has}
use Rattle.sd_beside.proofs.needed.Rings.{next_in, leads_next}

-- Different numbers below n are no more than n

abbrev other_than : ℕ → ℕ → Bool
other_than k x = not (nat_eq k x)

kept_different : (k : ℕ) (xs : List ℕ) → AreDifferent xs → AreDifferent (filter (other_than k) xs)
kept_different k [] different = tt
kept_different k (y ∷ ys) different = by (nat_eq k y) (kept_different k ys different.1)
  where
    by : (b : Bool) → AreDifferent (filter (other_than k) ys) → AreDifferent (if not b then y ∷ filter (other_than k) ys else filter (other_than k) ys)
    by true rest = rest
    by false rest = (
      ap not (false_from_ne_true (has (filter (other_than k) ys) y)
          (λ there. both_ways (has ys y) (not-true (has ys y) different.0) (kept_has (other_than k) ys y there).0)),
      rest,
    )

kept_all : (k : ℕ) (xs : List ℕ) → has xs k ≡ false → length (filter (other_than k) xs) ≡ length xs
kept_all k [] none = refl
kept_all k (y ∷ ys) none =
    let (here, rest) = or_parts (nat_eq k y) (has ys k) none in
    rw here (let more = kept_all k ys rest in omega (arith, more))

kept_but_one : (k : ℕ) (xs : List ℕ) → AreDifferent xs → length xs ≤ length (filter (other_than k) xs) + 1
kept_but_one k [] different = omega arith
kept_but_one k (y ∷ ys) different = by (nat_eq k y) refl (kept_but_one k ys different.1)
  where
    by : (b : Bool) → nat_eq k y ≡ b → length ys ≤ length (filter (other_than k) ys) + 1
        → suc (length ys) ≤ length (if not b then y ∷ filter (other_than k) ys else filter (other_than k) ys) + 1
    by true same rest =
        let none : has ys k ≡ false = subst (λ (v : ℕ). has ys v ≡ false) (sym (eqb-true k y same)) (not-true (has ys y) different.0) in
        let all = kept_all k ys none in
        omega (arith, all)
    by false other rest = omega (arith, rest)

different_few : (n : ℕ) (xs : List ℕ) → AreDifferent xs → ((x : ℕ) → has xs x ≡ true → x < n) → length xs ≤ n
different_few zero [] different within = omega arith
different_few zero (x ∷ xs) different within = let less = within x (or_left (nat_eq x x) (has xs x) (eq-eqb x x refl)) in absurd (omega (arith, less))
different_few (suc n) xs different within =
    let rest = different_few n (filter (other_than n) xs) (kept_different n xs different)
    (λ x there. (let it = kept_has (other_than n) xs x there in
    let less = within x it.0 in
    let apart = eqb-false n x (not-true (nat_eq n x) it.1) in
    omega (arith, less, apart))) in
    let most = kept_but_one n xs different in
    omega (arith, rest, most)

-- Following

follow_chain : (parent : ℕ → Option ℕ) (x z : ℕ) (ys : List ℕ) → IsChain (λ d e. parent d ≡ Some e) (x ∷ (ys ++ z ∷ []))
    → follow parent (suc (length ys)) x ≡ Some z
follow_chain parent x z [] chain = chain.0
follow_chain parent x z (y ∷ ys) chain = follow_first parent (suc (length ys)) x y chain.0 ∙ follow_chain parent y z ys chain.1

pub loop_is_seen : (net : Network) (plan : Plan) → LoopIsSeen net plan
loop_is_seen net plan f start others different closes =
    found_some (is_on_loop (alone net plan) (chronicle (alone net plan) closes.history)) (device_numbers net) start
    (any_of (λ n. same_number (follow (counted_parent (alone net plan) (chronicle (alone net plan) closes.history)) (n + 1) start) start)
    (device_numbers net) (length others) back
    (among_below (length net.devices) (length others) few))
    (among_below (length net.devices) start (within start (or_left (nat_eq start start) (has others start) (eq-eqb start start refl))))
  where
    counts : (b : Bool) (o : Option ℕ) (y : ℕ) → (if b then o else None) ≡ Some y → b ≡ true
    counts true o y is = refl
    counts false o y is = cc

    within : (x : ℕ) → has (start ∷ others) x ≡ true → x < length net.devices
    within x there =
        let leads = leads_next (λ d e. counted_parent (alone net plan) (chronicle (alone net plan) closes.history) d ≡ Some e) start start others
        closes.follows x there in
        let counted : is_counted (alone net plan) (seen_of (chronicle (alone net plan) closes.history)) x ≡ true =
        counts (is_counted (alone net plan) (seen_of (chronicle (alone net plan) closes.history)) x)
        (parent_in (chronicle (alone net plan) closes.history) x) (next_in start (start ∷ others) x) leads in
        up_is_known (alone net plan) closes.history closes.clean.is x
        (and_parts (is_up (seen_of (chronicle (alone net plan) closes.history)) x) _ counted).0

    few : suc (length others) ≤ length net.devices
    few = different_few (length net.devices) (start ∷ others) different within

    back : same_number (follow (counted_parent (alone net plan) (chronicle (alone net plan) closes.history)) (length others + 1) start) start ≡ true
    back =
        let one : length others + 1 ≡ suc (length others) = omega arith in
        let comes : follow (counted_parent (alone net plan) (chronicle (alone net plan) closes.history)) (length others + 1) start ≡ Some start =
        ap (λ (n : ℕ). follow (counted_parent (alone net plan) (chronicle (alone net plan) closes.history)) n start) one
        ∙ follow_chain (counted_parent (alone net plan) (chronicle (alone net plan) closes.history)) start start others closes.follows in
        ap (λ (o : Option ℕ). same_number o start) comes ∙ eq-eqb start start refl

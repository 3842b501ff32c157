-- How marks change: at one place, and on the whole stack.
use Rattle.std.proofs.Common.{suc, ◌≡◌, ◌≢◌, ℕ, ◌<◌, true, ◌⊎◌, List, [], ◌∷◌, length, get_or, set as put, nat_eq, sym, ap, ◌∙◌, inl, inr, subst, arith, get_or-set_other, get_or-set_same, Option, Some}
use Rattle.std.specs.Prelude.{IfSome}
use Rattle.std.proofs.lemmas.Bool.{cases_eq, eq-eqb, eqb-true, or_cases}
use Rattle.std.proofs.lemmas.List.Folds.{list_any_at}
use Rattle.std.proofs.lemmas.Option.{IfSome_then}
use Rattle.sd_num.specs.Lists.{has, same_number}
use Rattle.sd_num.proofs.Shared.{same_number-some}
use Rattle.sd_checker.specs.check_loop.Graphs.{BothAre, successors_at, leads}
use Rattle.sd_checker.specs.check_loop.Markings.{mark_at}
use Rattle.sd_checker.specs.declared.check_loop.graph.Successors.{Successors}
use Rattle.sd_checker.specs.declared.check_loop.marking.Mark.{Mark}
use Rattle.sd_checker.specs.declared.check_loop.marking.Mark.TheVariants as mark

-- a place with another mark than the one that changes keeps it
pub kept : (marks : List Mark) (x i : ℕ) (new was m : Mark) → mark_at marks x ≡ was → mark_at marks i ≡ m → (was ≡ m → ⊥) → mark_at (put marks x new) i ≡ m
kept marks x i new was m at_x at_i differ =
    let apart : i ≢ x = λ same. differ (sym at_x ∙ ap (mark_at marks) (sym same) ∙ at_i) in
    get_or-set_other marks x i new mark.Ending apart ∙ at_i

-- where a mark comes from
pub from_before : (marks : List Mark) (x i : ℕ) (new m : Mark) → x < length marks → mark_at (put marks x new) i ≡ m
    → ((i ≡ x) × (new ≡ m)) ⊎ ((i ≢ x) × (mark_at marks i ≡ m))
from_before marks x i new m within at_i =
    elim (cases_eq i x) [
      | inl same ↦ inl (same, sym (get_or-set_same marks x new mark.Ending within) ∙ ap (mark_at (put marks x new)) (sym same) ∙ at_i)
      | inr apart ↦ inr (apart, sym (get_or-set_other marks x i new mark.Ending apart) ∙ at_i)
    ]

-- what holds of both successors
pub both_map : {P Q : ℕ → Type 0} (s : Successors) → ((j : ℕ) → P j → Q j) → BothAre P s → BothAre Q s
both_map s each both = (IfSome_then s.primary both.0 each, IfSome_then s.backup both.1 each)

if_some : (P : ℕ → Type 0) (o : Option ℕ) (j : ℕ) → o ≡ Some j → IfSome o P → P j
if_some P o j is all = subst (λ (found : Option ℕ). IfSome found P) is all

-- of both successors also holds what holds of each to which a place leads
pub both_at : (P : ℕ → Type 0) (graph : List Successors) (i j : ℕ) → leads graph i j ≡ true → BothAre P (successors_at graph i) → P j
both_at P graph i j led both =
    let s = successors_at graph i in
    elim (or_cases (same_number s.primary j) (same_number s.backup j) led) [
      | inl here ↦ if_some P s.primary j (same_number-some s.primary j here) both.0
      | inr here ↦ if_some P s.backup j (same_number-some s.backup j here) both.1
    ]

-- a place one further on
further : (y : ℕ) (ys : List ℕ) (x : ℕ) → ((k : ℕ) × (k < length ys) × (get_or ys k 0 ≡ x)) → (k : ℕ) × (k < length (y ∷ ys)) × (get_or (y ∷ ys) k 0 ≡ x)
further y ys x rest = (suc rest.0, omega (arith, rest.1), rest.2)

-- what is among numbers has a place
pub place_of : (xs : List ℕ) (x : ℕ) → has xs x ≡ true → (k : ℕ) × (k < length xs) × (get_or xs k 0 ≡ x)
place_of [] x found = cc
place_of (y ∷ ys) x found =
    elim (or_cases (nat_eq x y) (has ys x) found) [
      | inl here ↦ (0, omega arith, sym (eqb-true x y here))
      | inr later ↦ further y ys x (place_of ys x later)
    ]

-- what has a place is among the numbers
pub has_place : (xs : List ℕ) (k x : ℕ) → k < length xs → get_or xs k 0 ≡ x → has xs x ≡ true
has_place xs k x within at = list_any_at (nat_eq x) xs k 0 within (eq-eqb x (get_or xs k 0) (sym at))

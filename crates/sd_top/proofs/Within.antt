-- A command of words that has plans has one of them at least, and the sizes of a case are within their limits.
use Rattle.std.proofs.Common.{◌≡◌, ℕ, ◌≤◌, Bool, true, false, List, [], ◌∷◌, length, nat_le, Option, Some, None, Result, Ok, Err, refl, subst}
use Rattle.std.specs.Prelude.{◌-◌, ◌^◌, ◌&&◌, codes, if◌then◌else◌}
use Rattle.std.specs.Str.{bytes_eq}
use Rattle.std.proofs.lemmas.Bool.{and_parts, leb-true}
use Rattle.sd_num.specs.Decimals.{number}
use Rattle.sd_num.specs.Lists.{map_or}
use Rattle.sd_num.specs.declared.NumFault.{NumFault}
use Rattle.sd_gen.specs.command.Sizes as sizes
use Rattle.sd_gen.specs.declared.command.FabricSize.{FabricSize}
use Rattle.sd_top.specs.Words.{Command, but_last, budget_of, case_of, command_of, fabric_of, if_within, number_from, of_plans, over_plans, takes_plans, with_fixed, with_plans}
use Rattle.sd_top.specs.Words.Command.{Solo, Plan as PlanOf, Check, Renew, Replay, Case, Migrate, Order, Twoway, Drill}

abbrev pub IsWithin : Option Command → Type 0
IsWithin (Some (Replay topology plans schedule)) = 1 ≤ length plans
IsWithin (Some (Order topology plans schedule)) = 1 ≤ length plans
IsWithin (Some (Case number fabric)) = sizes.IsWithin fabric
IsWithin _ = Unit {0}

either : (test : Bool) (one two : Option Command) → IsWithin one → IsWithin two → IsWithin (if test then one else two)
either true one two first second = first
either false one two first second = second

where_so : (test : Bool) (command : Option Command) → (test ≡ true → IsWithin command) → IsWithin (if test then command else None)
where_so true command has = has refl
where_so false command has = tt

where_given : {A : Type 0} (given : Option A) (Then : A → Option Command) → ((a : A) → given ≡ Some a → IsWithin (Then a)) → IsWithin (map_or given None Then)
where_given None Then has = tt
where_given (Some a) Then has = has a refl

of_plans_within : (word topology : List ℕ) (plans : List (List ℕ)) (schedule : List ℕ) → 1 ≤ length plans → IsWithin (of_plans word topology plans schedule)
of_plans_within word topology plans schedule some =
    either (bytes_eq word (codes "replay")) (Some (Replay topology plans schedule))
    (if bytes_eq word (codes "order") then Some (Order topology plans schedule) else None) some
    (where_so (bytes_eq word (codes "order")) (Some (Order topology plans schedule)) (λ is. some))

over_plans_within : (word topology : List ℕ) (plans : List (List ℕ)) (schedule : List ℕ) → IsWithin (over_plans word topology plans schedule)
over_plans_within word topology plans schedule =
    let some : Bool = nat_le 1 (length plans) in
    let few : Bool = nat_le (length plans) 64 in
    where_so (some && few) (of_plans word topology plans schedule)
    (λ is. of_plans_within word topology plans schedule (leb-true 1 (length plans) (and_parts some few is).0))

with_plans_within : (word : List ℕ) (others : List (List ℕ)) → IsWithin (with_plans word others)
with_plans_within word [] = tt
with_plans_within word (topology ∷ []) = tt
with_plans_within word (topology ∷ next ∷ others) = over_plans_within word topology (but_last next others).0 (but_last next others).1

-- a number that was read is within its limits
given_within : (low high : ℕ) (said : Result ℕ NumFault) (n : ℕ) → if_within low high said ≡ Some n → (low ≤ n) × (n ≤ high)
given_within low high (Err why) n given = cc
given_within low high (Ok m) n given = by (nat_le low m && nat_le m high) refl given
  where
    by : (test : Bool) → (nat_le low m && nat_le m high) ≡ test → (if test then Some m else None) ≡ Some n → (low ≤ n) × (n ≤ high)
    by false is given = cc
    by true is given =
        let parts = and_parts (nat_le low m) (nat_le m high) is in
        let same : m ≡ n = cc in
        subst (λ (k : ℕ). (low ≤ k) × (k ≤ high)) same (leb-true low m parts.0, leb-true m high parts.1)

-- and so are the sizes of a case
fabric_within : (leaves spines : List ℕ) (fabric : FabricSize) → fabric_of leaves spines ≡ Some fabric → sizes.IsWithin fabric
fabric_within leaves spines fabric given =
    by (number_from 2 256 leaves) (number_from 3 32 spines) (given_within 2 256 (number leaves)) (given_within 3 32 (number spines)) given
  where
    by : (ls ss : Option ℕ) → ((n : ℕ) → ls ≡ Some n → (2 ≤ n) × (n ≤ 256)) → ((n : ℕ) → ss ≡ Some n → (3 ≤ n) × (n ≤ 32))
        → map_or ls None (λ l. map_or ss None (λ s. Some (record { leaves = l; spines = s }))) ≡ Some fabric → sizes.IsWithin fabric
    by None ss first second given = cc
    by (Some l) None first second given = cc
    by (Some l) (Some s) first second given =
        let one = first l refl in
        let two = second s refl in
        let same : ◌≡◌ {A = FabricSize} (record { leaves = l; spines = s }) fabric = cc in
        subst sizes.IsWithin same (record { some_leaves = one.0; few_leaves = one.1; some_spines = two.0; few_spines = two.1 })

case_within : (any leaves spines : List ℕ) → IsWithin (case_of any leaves spines)
case_within any leaves spines =
    where_given (number_from 0 (2 ^ 64 - 1) any) (λ n. map_or (fabric_of leaves spines) None (λ fabric. Some (Case n fabric))) (λ n is.
    where_given (fabric_of leaves spines) (λ fabric. Some (Case n fabric)) (λ fabric given. fabric_within leaves spines fabric given))

with_fixed_within : (word : List ℕ) (others : List (List ℕ)) → IsWithin (with_fixed word others)
with_fixed_within word [] = tt
with_fixed_within word (file ∷ []) =
    either (bytes_eq word (codes "solo")) (Some (Solo file))
    (if bytes_eq word (codes "plan") then Some (PlanOf file) else if bytes_eq word (codes "migrate") then Some (Migrate file) else None) tt
    (either (bytes_eq word (codes "plan")) (Some (PlanOf file)) (if bytes_eq word (codes "migrate") then Some (Migrate file) else None) tt
    (where_so (bytes_eq word (codes "migrate")) (Some (Migrate file)) (λ is. tt)))
with_fixed_within word (first ∷ second ∷ []) =
    either (bytes_eq word (codes "check")) (Some (Check first second)) (if bytes_eq word (codes "twoway") then Some (Twoway first second) else None) tt
    (where_so (bytes_eq word (codes "twoway")) (Some (Twoway first second)) (λ is. tt))
with_fixed_within word (first ∷ second ∷ third ∷ []) =
    either (bytes_eq word (codes "renew")) (Some (Renew first second third)) (if bytes_eq word (codes "case") then case_of first second third else None) tt
    (where_so (bytes_eq word (codes "case")) (case_of first second third) (λ is. case_within first second third))
with_fixed_within word (first ∷ second ∷ third ∷ fourth ∷ []) =
    where_so (bytes_eq word (codes "drill")) (map_or (budget_of third fourth) None (λ budget. Some (Drill first second budget)))
    (λ is. where_given (budget_of third fourth) (λ budget. Some (Drill first second budget)) (λ budget given. tt))
with_fixed_within word (first ∷ second ∷ third ∷ fourth ∷ fifth ∷ others) = tt

pub words_are_within : (words : List (List ℕ)) → IsWithin (command_of words)
words_are_within [] = tt
words_are_within (word ∷ others) =
    either (takes_plans word) (with_plans word others) (with_fixed word others) (with_plans_within word others) (with_fixed_within word others)

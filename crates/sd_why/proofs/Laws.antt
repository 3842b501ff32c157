-- Where a kind of reason holds, no plan is accepted.
use Rattle.std.proofs.Common.{◌≡◌, ℕ, ◌<◌, ◌≤◌, inl, inr, Bool, true, false, ◌&&◌, ◌||◌, not, List, [], ◌∷◌, length, nat_eq, nat_le, Option, Some, None, if◌then◌else◌, refl, sym, ap, ◌∙◌, subst, arith}
use Rattle.std.specs.List.{list_all}
use Rattle.std.specs.Prelude.{option_map}
use Rattle.std.proofs.lemmas.Bool.{and_from, and_parts, both_ways, cases_Bool, eqb-true, eq-eqb, le-leb, or_cases}
use Rattle.sd_num.specs.Lists.{has}
use Rattle.sd_num.proofs.Places.{at_has}
use Rattle.sd_num.proofs.Shared.{first_none}
use Rattle.sd_plan.specs.topo.Network.{Network, least_low}
use Rattle.sd_plan.specs.domain.Domains.{holds_device}
use Rattle.sd_plan.specs.declared.domain.DomainId.TheVariants as domain
use Rattle.sd_plan.specs.declared.topo.Thing.{Thing}
use Rattle.sd_plan.specs.declared.Absent.{Absent}
use Rattle.sd_plan.specs.declared.Plan.{Plan}
use Rattle.sd_plan.specs.Plans.{is_member, is_root}
use Rattle.sd_plan.specs.Structure.{roots_breach, structure_breach}
use Rattle.sd_plan.specs.Walks.{hops}
use Rattle.sd_plan.proofs.Forest.{IsForest, climb, forest_of, height, most_hops}
use Rattle.sd_plan.proofs.Rules.{none_mapped}
use Rattle.sd_planner.proofs.Walks.{joins_swap}
use Rattle.sd_checker.specs.declared.check_root.TimingBreach.{TimingBreach}
use Rattle.sd_checker.proofs.DomainOrder.{listed_at}
use Rattle.sd_why.specs.Kinds.{Holds, IsApart, IsRushed, IsTooDeep, Kind, round_trip, shares_all}
use Rattle.sd_why.specs.Kinds as kind
use Rattle.sd_why.specs.Plans.{HasNoPlan, HasNoPlanOfCandidates, IsWhole}
use Rattle.sd_why.specs.Ways.{Way}
use Rattle.sd_why.proofs.Needed.{few_law}
use Rattle.sd_why.proofs.Joining.{way_back, way_on, ways_join}

-- a way of no link, to the device itself
way_none : (net : Network) (n from d : ℕ) → n ≡ 0 → from ≡ d → Way net n from d
unfolding Way
way_none net n from d none same = subst (λ (m : ℕ). Way net m from d) (sym none) same

module _ (net : Network) (plan : Plan) (whole : IsWhole net plan) where
  -- each device takes part
  member : (d : ℕ) → is_member plan d ≡ true
  member d = ap (λ (a : Absent). not (has a.devices d)) whole.all

  module _ (structured : structure_breach net plan ≡ None) where
    forest : IsForest net plan
    forest = forest_of net plan whole.fits structured

    -- the walk of a device, from its end
    walked : (d : ℕ) → d < length net.devices → Way net (height net plan d) plan.root d
    walked = climb net plan forest (λ d. Way net (height net plan d) plan.root d)
        (λ d within none. elim (cases_Bool (is_root plan d)) [
          | inl root ↦ way_none net (height net plan d) plan.root d (ap length (forest.top d none)) (eqb-true plan.root d root)
          | inr other ↦ (let (hop, is) = forest.hop d within (member d) other in cc)
        ])
        (λ d hop within is step above.
        subst (λ n. Way net n plan.root d) (sym (ap length step.walk))
        (way_on net (height net plan hop.parent) plan.root hop.parent d above
        (record { link = hop.link; within = step.link; joined = joins_swap net hop.link hop.parent d ∙ step.joined })))

    shallow : (d : ℕ) → height net plan d ≤ net.params.depth
    shallow d = by (is_root plan d)
      where
        by : (b : Bool) → length (if b then [] else hops (is_root plan) plan net.params.depth d) ≤ net.params.depth
        by true = omega arith
        by false = most_hops (is_root plan) plan net.params.depth d

    -- the two roots differ
    apart_roots : nat_eq plan.root plan.backup_root ≡ false
    apart_roots =
        by (is_member plan plan.root) (is_member plan plan.backup_root) (nat_eq plan.root plan.backup_root)
        (none_mapped (λ d. (1, d)) (roots_breach plan) (first_none (option_map (λ d. (1, d)) (roots_breach plan)) _ structured))
      where
        by : (m b same : Bool) → (if not m then Some plan.root else if not b || same then Some plan.backup_root else None) ≡ None → same ≡ false
        by true true false none = refl
        by true true true none = cc
        by true false same none = cc
        by false b same none = cc

-- of fewer than two numbers two are the same
one_only : (xs : List ℕ) (a b : ℕ) → length xs < 2 → has xs a ≡ true → has xs b ≡ true → a ≡ b
one_only [] a b few first second = cc
one_only (x ∷ []) a b few first second = only a first ∙ sym (only b second)
  where
    only : (c : ℕ) → has (x ∷ []) c ≡ true → c ≡ x
    only c there = elim (or_cases (nat_eq c x) false there) [ inl here ↦ eqb-true c x here | inr none ↦ cc ]
one_only (x ∷ y ∷ ys) a b few first second = absurd (omega arith)

-- what holds of all holds of one of them
one_of_all : (p : ℕ → Bool) (xs : List ℕ) (x : ℕ) → list_all p xs ≡ true → has xs x ≡ true → p x ≡ true
one_of_all p [] x all there = cc
one_of_all p (y ∷ ys) x all there =
    let (first, rest) = and_parts (p y) (list_all p ys) all in
    elim (or_cases (nat_eq x y) (has ys x) there) [
      | inl here ↦ subst (λ z. p z ≡ true) (sym (eqb-true x y here)) first
      | inr later ↦ one_of_all p ys x rest later
    ]

module _ (net : Network) where
  pub few_candidates_law : Holds net kind.candidates → HasNoPlanOfCandidates net
  few_candidates_law few plan whole of accepted =
      both_ways (nat_eq plan.root plan.backup_root) (apart_roots net plan whole accepted.structure)
      (eq-eqb plan.root plan.backup_root (one_only net.roots plan.root plan.backup_root few of.root of.backup_root))

  pub timing_law : Holds net kind.timing → HasNoPlan net
  timing_law rushed plan whole accepted =
      by (nat_le (least_low net net.params.period) (round_trip net)) _ _ (le-leb (least_low net net.params.period) (round_trip net) rushed) accepted.timing
    where
      by : (b : Bool) (x : TimingBreach) (rest : Option TimingBreach) → b ≡ true → (if b then Some x else rest) ≡ None → ⊥
      by true x rest is none = cc
      by false x rest is none = cc

  pub shared_law : Holds net kind.shared → HasNoPlanOfCandidates net
  shared_law (k, within, all) plan whole of accepted =
      by (holds_device net (domain.Listed k) plan.root && holds_device net (domain.Listed k) plan.backup_root) _ _
      (and_from (holds_device net (domain.Listed k) plan.root) (holds_device net (domain.Listed k) plan.backup_root)
      (one_of_all (holds_device net (domain.Listed k)) net.roots plan.root all of.root)
      (one_of_all (holds_device net (domain.Listed k)) net.roots plan.backup_root all of.backup_root))
      (accepted.root k (domain.Listed k) (listed_at net k within))
    where
      by : (b : Bool) (x : Thing) (rest : Option Thing) → b ≡ true → (if b then Some x else rest) ≡ None → ⊥
      by true x rest is none = cc
      by false x rest is none = cc

  pub apart_law : Holds net kind.apart → HasNoPlan net
  apart_law (d, within, apart) plan whole accepted =
      let to_first = walked net plan whole accepted.structure 0 (omega arith) in
      let to_other = walked net plan whole accepted.structure d within in
      let (n, way) = ways_join net (height net plan 0) (height net plan d) 0 plan.root d (way_back net (height net plan 0) plan.root 0 to_first) to_other in
      apart n way

  pub deep_law : Holds net kind.deep → HasNoPlanOfCandidates net
  deep_law deep plan whole of accepted =
      let (i, at) = at_has net.roots plan.root of.root in
      let (d, within, beyond) = deep i plan.root at in
      beyond (height net plan d) (shallow net plan whole accepted.structure d) (walked net plan whole accepted.structure d within)

  -- what no plan meets, none of candidates does
  pub none_of_candidates : HasNoPlan net → HasNoPlanOfCandidates net
  none_of_candidates none plan whole of = none plan whole

  -- so it is of each kind
  pub no_plan : (k : Kind) → Holds net k → HasNoPlanOfCandidates net
  no_plan kind.candidates holds = few_candidates_law holds
  no_plan kind.timing holds = none_of_candidates (timing_law holds)
  no_plan kind.shared holds = shared_law holds
  no_plan kind.apart holds = none_of_candidates (apart_law holds)
  no_plan kind.deep holds = deep_law holds
  no_plan kind.few holds = none_of_candidates (few_law net holds)

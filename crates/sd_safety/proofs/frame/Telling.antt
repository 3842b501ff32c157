-- In a guarded plan that fits its network the link to a parent tells the parent: primary and backup go over different links (rule 4 of the structure).
use Rattle.std.specs.Prelude.{◌≡◌, ℕ, ◌-◌, ◌<◌, true, not, length, find, slice_get, nat_eq, Option, Some, None, option_map, refl}
use Rattle.std.proofs.Common.{◌∙◌, ap, sym, subst, inl, inr}
use Rattle.std.proofs.lemmas.Bool.{eq-eqb, not-false}
use Rattle.std.specs.Option.{option_or}
use Rattle.std.proofs.lemmas.Option.{slice_get_within}
use Rattle.sd_num.specs.Lists.{map_or}
use Rattle.sd_plan.specs.topo.Network.{Network, device_numbers}
use Rattle.sd_plan.specs.declared.Hop.{Hop}
use Rattle.sd_plan.specs.declared.Plan.{Plan}
use Rattle.sd_plan.specs.declared.PlanRow.{PlanRow}
use Rattle.sd_plan.specs.Plans.{Fits, primary_of, backup_of}
use Rattle.sd_plan.specs.Structure.{structure_breach, roots_breach, first_failing, row_is_right, hops_are_right, links_differ, reaches_root, falls_back}
use Rattle.sd_plan.proofs.Numbered.{none_found, both_none}
use Rattle.sd_plan.proofs.Rules.{none_mapped}
use Rattle.sd_history.specs.World.{Setting, no_plan}
use Rattle.sd_history.proofs.Given.{some_is}
use Rattle.sd_safety.specs.invariant.Guarded.{AreGuarded}
use Rattle.sd_safety.proofs.invariant.Sides.{not_both}
use Rattle.sd_safety.specs.messages.Hops.{IsPlanHop, TellsParent}
use Rattle.sd_safety.specs.frame.Descents.{LinksTell}

differ : (net : Network) (plan : Plan) → structure_breach net plan ≡ None → (d : ℕ) → d < length net.devices → links_differ plan d ≡ true
differ net plan structured d within =
    let one =
    both_none (option_map (λ d. (1, d)) (roots_breach plan))
    (option_or (first_failing net 2 (row_is_right plan))
    (option_or (first_failing net 3 (hops_are_right net plan))
    (option_or (first_failing net 4 (links_differ plan)) (option_or (first_failing net 5 (reaches_root net plan)) (first_failing net 6 (falls_back plan))))))
    structured in
    let two =
    both_none (first_failing net 2 (row_is_right plan))
    (option_or (first_failing net 3 (hops_are_right net plan))
    (option_or (first_failing net 4 (links_differ plan)) (option_or (first_failing net 5 (reaches_root net plan)) (first_failing net 6 (falls_back plan)))))
    one.1 in
    let three =
    both_none (first_failing net 3 (hops_are_right net plan))
    (option_or (first_failing net 4 (links_differ plan)) (option_or (first_failing net 5 (reaches_root net plan)) (first_failing net 6 (falls_back plan))))
    two.1 in
    let four = both_none (first_failing net 4 (links_differ plan))
    (option_or (first_failing net 5 (reaches_root net plan)) (first_failing net 6 (falls_back plan))) three.1 in
    not-false (links_differ plan d)
    (none_found (λ x. not (links_differ plan x)) (length net.devices) d
    (none_mapped (λ x. (4, x)) (find (λ x. not (links_differ plan x)) (device_numbers net)) four.0) within)

row_within : (plan : Plan) (d : ℕ) (h : Hop) (o : Option (Option PlanRow)) → slice_get plan.rows d ≡ o
    → option_map (λ (row : PlanRow). row.primary) (map_or o None (λ row. row)) ≡ Some h → d < length plan.rows
row_within plan d h None is there = cc
row_within plan d h (Some row) is there = slice_get_within plan.rows d row is

same_hop : (a b : Hop) (o : Option Hop) → o ≡ Some a → o ≡ Some b → a ≡ b
same_hop a b o is is' = some_is (sym is ∙ is')

different : (p b : Hop) (o u : Option Hop) → o ≡ Some p → u ≡ Some b
    → map_or o true (λ (x : Hop). map_or u true (λ (y : Hop). not (nat_eq x.link y.link))) ≡ true → p.link ≡ b.link → ⊥
different p b None u is is' holds same = cc
different p b (Some x) None is is' holds same = cc
different p b (Some x) (Some y) is is' holds same =
    let links : x.link ≡ y.link = ap (λ (k : Hop). k.link) (some_is is) ∙ same ∙ sym (ap (λ (k : Hop). k.link) (some_is is')) in
    not_both (not (nat_eq x.link y.link)) holds (ap not (eq-eqb x.link y.link links))

tells_of : (net : Network) (plan : Plan) → Fits net plan → structure_breach net plan ≡ None → TellsParent plan
tells_of net plan fits structured d x y link one two = go one.is two.is
  where
    within : (h : Hop) → primary_of plan d ≡ Some h → d < length net.devices
    within h is = subst (λ n. d < n) fits.entries (row_within plan d h (slice_get plan.rows d) refl is)

    parents : one.hop ≡ two.hop → x ≡ y
    parents same = sym one.parent_is ∙ ap (λ (k : Hop). k.parent) same ∙ two.parent_is

    go : IsPlanHop plan d one.hop → IsPlanHop plan d two.hop → x ≡ y
    go (inl a) (inl b) = parents (same_hop one.hop two.hop (primary_of plan d) a b)
    go (inr a) (inr b) = parents (same_hop one.hop two.hop (backup_of plan d) a b)
    go (inl a) (inr b) =
        absurd (different one.hop two.hop (primary_of plan d) (backup_of plan d) a b (differ net plan structured d (within one.hop a))
        (one.link_is ∙ sym two.link_is))
    go (inr a) (inl b) =
        absurd (different two.hop one.hop (primary_of plan d) (backup_of plan d) b a (differ net plan structured d (within two.hop b))
        (two.link_is ∙ sym one.link_is))

no_row : (d : ℕ) (h : Hop) → IsPlanHop no_plan d h → ⊥
no_row d h (inl is) = cc
no_row d h (inr is) = cc

pub links_tell : {setting : Setting} → AreGuarded setting → LinksTell setting
links_tell {setting} fair epoch = go (slice_get setting.plans (epoch - 1)) refl
  where
    go : (o : Option Plan) → slice_get setting.plans (epoch - 1) ≡ o → TellsParent (map_or o no_plan (λ plan. plan))
    go None is = λ d x y link one two. absurd (no_row d one.hop one.is)
    go (Some plan) is = tells_of setting.net plan (fair.fit (epoch - 1) plan is) (fair.guarded (epoch - 1) plan is).structure

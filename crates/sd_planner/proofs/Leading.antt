-- The flags of placed devices whose walks lead over something.
use Rattle.std.proofs.Common.{◌≡◌, ℕ, zero, suc, ◌+◌, ◌<◌, Bool, true, false, ◌||◌, List, length, Some, slice_get, set, refl, sym, ap, ◌∙◌, subst, arith, inl, inr}
use Rattle.std.proofs.lemmas.Bool.{cases_lt}
use Rattle.std.proofs.lemmas.Option.{same_Some}
use Rattle.std.proofs.lemmas.List.{length-set, get_or-set_same, get_or-set_other}
use Rattle.sd_num.specs.Lists.{map_or}
use Rattle.sd_plan.specs.topo.Network.{Network}
use Rattle.sd_plan.specs.declared.Absent.{Absent}
use Rattle.sd_planner.specs.declared.placement.Placed.{Placed}
use Rattle.sd_planner.specs.Trees.{Grows}
use Rattle.sd_planner.specs.Climbs.{leads_over}
use Rattle.sd_planner.specs.Flags.{is_set, AreOver}
use Rattle.sd_planner.proofs.Trees.{behind, over_step, over_first}

module _ (net : Network) (root : ℕ) (absent : Absent) (list : List Placed) (tree : Grows net root absent list) (devices links : List Bool)
    (sized : length devices ≡ length net.devices) where
  regroup : (a b c : Bool) → (a || (b || c)) ≡ ((a || b) || c)
  regroup true b c = refl
  regroup false b c = refl

  -- what is seen at a device
  pub seen : (i : ℕ) (p : Placed) (flags : List Bool) (answer : Bool) → slice_get list i ≡ Some p → AreOver devices links list i flags
      → answer ≡ (is_set devices p.device || map_or p.hop false (λ hop. is_set links hop.link || is_set flags hop.parent))
      → answer ≡ leads_over (is_set devices) (is_set links) list p.device
  seen zero p flags answer at so_far is =
      is
      ∙ ap (λ o. is_set devices p.device || map_or o false (λ hop. is_set links hop.link || is_set flags hop.parent)) (ap (λ q. q.hop) (tree.first p at))
      ∙ plain (is_set devices p.device)
      ∙ sym (over_first net root absent list tree (is_set devices) (is_set links) p at)
    where
      plain : (t : Bool) → (t || false) ≡ t
      plain true = refl
      plain false = refl
  seen (suc i) p flags answer at so_far is =
      let b = behind net root absent list tree (suc i) p (omega arith) at in
      is
      ∙ ap (λ o. is_set devices p.device || map_or o false (λ hop. is_set links hop.link || is_set flags hop.parent)) b.has_hop
      ∙ ap (λ t. is_set devices p.device || (is_set links b.hop.link || t))
      (ap (is_set flags) (sym b.leads) ∙ so_far.each b.place b.parent b.earlier b.at ∙ ap (leads_over (is_set devices) (is_set links) list) b.leads)
      ∙ regroup (is_set devices p.device) (is_set links b.hop.link) (leads_over (is_set devices) (is_set links) list b.hop.parent)
      ∙ sym (over_step net root absent list tree (is_set devices) (is_set links) (suc i) p at b)

  -- one device more
  pub over_more : (i : ℕ) (p : Placed) (flags : List Bool) (answer : Bool) → slice_get list i ≡ Some p → AreOver devices links list i flags
      → answer ≡ (is_set devices p.device || map_or p.hop false (λ hop. is_set links hop.link || is_set flags hop.parent))
      → AreOver devices links list (i + 1) (set flags p.device answer)
  over_more i p flags answer at so_far is =
      let size : length flags ≡ length devices = so_far.size in
      let member : p.device < length net.devices = (tree.members i p at).0 in
      record {
        size = length-set flags p.device answer ∙ so_far.size;
        each = λ j q before there. elim (cases_lt j i) [
          | inl earlier ↦
              get_or-set_other flags p.device q.device answer false (tree.distinct j i q p earlier there at) ∙ so_far.each j q earlier there
          | inr last ↦
              (let same : j ≡ i = omega arith in
              let one : q ≡ p = same_Some q p (sym there ∙ ap (slice_get list) same ∙ at) in
              subst (λ x. is_set (set flags p.device answer) x.device ≡ leads_over (is_set devices) (is_set links) list x.device) (sym one)
              (get_or-set_same flags p.device answer false (omega (arith, sized, size, member)) ∙ seen i p flags answer at so_far is))
        ];
      }

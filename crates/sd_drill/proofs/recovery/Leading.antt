-- Walks that lead on, and that none leads back where hops lead in no circle.
use Rattle.std.specs.Prelude.{◌≡◌, ℕ, true, false, ◌||◌, List, [], ◌∷◌, ◌++◌, option_to_list, Option, Some}
use Rattle.std.specs.List.{list_any}
use Rattle.std.proofs.Common.{refl, sym, ◌∙◌, subst, ◌⊎◌, inl, inr}
use Rattle.std.proofs.lemmas.Bool.{and_parts, and_from, or_left, or_right}
use Rattle.std.proofs.lemmas.List.Folds.{list_any-append}
use Rattle.sd_plan.specs.topo.Network.{Network}
use Rattle.sd_plan.specs.declared.domain.DomainId.{DomainId}
use Rattle.sd_plan.specs.declared.Hop.{Hop}
use Rattle.sd_plan.specs.declared.Plan.{Plan}
use Rattle.sd_plan.specs.Walks.{end_of}
use Rattle.sd_checker.specs.check_loop.Loops.{hops_of, same_hop, is_walk, HasNoCycle}
use Rattle.sd_checker.proofs.Exclusive.{same_self}
use Rattle.sd_drill.specs.recovery.Hops.{listed}
use Rattle.sd_drill.specs.recovery.Searches.{Leads}
use Rattle.sd_drill.specs.recovery.Walks.{IsWalk}
use Rattle.sd_drill.specs.declared.recovery.hops.Hops.{Hops}

end_append : (d : ℕ) (hs gs : List Hop) → end_of d (hs ++ gs) ≡ end_of (end_of d hs) gs
end_append d [] gs = refl
end_append d (h ∷ hs) gs = end_append h.parent hs gs

module _ (net : Network) (plan : Plan) (f : DomainId) where
  walk_append : (d : ℕ) (hs gs : List Hop) → IsWalk net plan f d hs → IsWalk net plan f (end_of d hs) gs → IsWalk net plan f d (hs ++ gs)
  walk_append d [] gs walked on = on
  walk_append d (h ∷ hs) gs walked on =
      let both = and_parts (list_any (same_hop h) (hops_of net plan f d)) (is_walk net plan f h.parent hs) walked in
      and_from (list_any (same_hop h) (hops_of net plan f d)) (is_walk net plan f h.parent (hs ++ gs)) both.0 (walk_append h.parent hs gs both.1 on)

  pub leads_on : (d e g : ℕ) → Leads net plan f d e → Leads net plan f e g → Leads net plan f d g
  leads_on d e g a b =
      record {
        hop = a.hop;
        rest = a.rest ++ b.hop ∷ b.rest;
        walked = walk_append d (a.hop ∷ a.rest) (b.hop ∷ b.rest) a.walked (subst (λ (x : ℕ). IsWalk net plan f x (b.hop ∷ b.rest)) (sym a.ends) b.walked);
        ends = end_append a.hop.parent a.rest (b.hop ∷ b.rest) ∙ b.ends;
      }

  pub no_return : HasNoCycle net plan f → (d : ℕ) → Leads net plan f d d → ⊥
  no_return acyclic d back = acyclic d back.hop back.rest back.walked back.ends

  pub leads_by : (d : ℕ) (hop : Hop) → list_any (same_hop hop) (hops_of net plan f d) ≡ true → Leads net plan f d hop.parent
  leads_by d hop some = record { hop = hop; rest = []; walked = and_from (list_any (same_hop hop) (hops_of net plan f d)) true some refl; ends = refl }

  module _ (d : ℕ) (hops : Hops) (are : listed hops ≡ hops_of net plan f d) where
    has_one : (o : Option Hop) (hop : Hop) → o ≡ Some hop → list_any (same_hop hop) (option_to_list o) ≡ true
    has_one o hop is =
        subst (λ (found : Option Hop). list_any (same_hop hop) (option_to_list found) ≡ true) (sym is) (or_left (same_hop hop hop) false (same_self hop))

    -- each of its hops is one on which a device may be
    pub hop_among : (hop : Hop) → (hops.primary ≡ Some hop) ⊎ (hops.backup ≡ Some hop) → list_any (same_hop hop) (hops_of net plan f d) ≡ true
    hop_among hop one =
        subst (λ (xs : List Hop). list_any (same_hop hop) xs ≡ true) are
        (list_any-append (same_hop hop) (option_to_list hops.primary) (option_to_list hops.backup) ∙ by one)
      where
        by : (hops.primary ≡ Some hop) ⊎ (hops.backup ≡ Some hop)
            → (list_any (same_hop hop) (option_to_list hops.primary) || list_any (same_hop hop) (option_to_list hops.backup)) ≡ true
        by (inl is) =
            or_left (list_any (same_hop hop) (option_to_list hops.primary)) (list_any (same_hop hop) (option_to_list hops.backup)) (has_one hops.primary hop is)
        by (inr is) =
            or_right (list_any (same_hop hop) (option_to_list hops.primary)) (list_any (same_hop hop) (option_to_list hops.backup)) (has_one hops.backup hop is)

    -- so it leads on
    pub hop_leads : (hop : Hop) → (hops.primary ≡ Some hop) ⊎ (hops.backup ≡ Some hop) → Leads net plan f d hop.parent
    hop_leads hop one = leads_by d hop (hop_among hop one)

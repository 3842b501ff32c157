-- Flags that are added step by step.
use Rattle.std.proofs.Common.{◌≡◌, ℕ, zero, suc, ◌+◌, ◌<◌, ◌≤◌, Bool, true, false, ◌||◌, List, [], ◌∷◌, length, nat_eq, replicate, Some, None, slice_get, ◌⊎◌, refl, sym, ap, ◌∙◌, subst, arith, inl, inr}
use Rattle.std.specs.Prelude.{option_and_then}
use Rattle.std.proofs.lemmas.Bool.{cases_lt}
use Rattle.std.proofs.lemmas.List.{length-replicate, get_or-replicate, get_or_past}
use Rattle.std.proofs.lemmas.Option.{same_Some}
use Rattle.sd_num.specs.Lists.{has}
use Rattle.sd_plan.specs.topo.Network.{Network}
use Rattle.sd_plan.specs.declared.Absent.{Absent}
use Rattle.sd_plan.specs.declared.Hop.{Hop}
use Rattle.sd_plan.specs.Walks.{links_of}
use Rattle.sd_plan.proofs.Forest.{or_none}
use Rattle.sd_planner.specs.declared.placement.Placed.{Placed}
use Rattle.sd_planner.specs.Spreading.{placed_at}
use Rattle.sd_planner.specs.Trees.{Grows}
use Rattle.sd_planner.specs.Climbs.{way_up}
use Rattle.sd_planner.specs.Flags.{is_set}
use Rattle.sd_planner.specs.Things.{AddsAll, parents_of}
use Rattle.sd_planner.specs.declared.backups.things.Things.{Things}
use Rattle.sd_planner.proofs.Growing.{found_own}
use Rattle.sd_planner.proofs.Trees.{stands, behind, way_step, way_none}

or_assoc : (a b c : Bool) → ((a || b) || c) ≡ (a || (b || c))
or_assoc true b c = refl
or_assoc false b c = refl

-- no flag is set where all are false
pub unset : (n x : ℕ) → is_set (replicate n false) x ≡ false
unset n x = by_less (cases_lt x n)
  where
    by_less : (x < n) ⊎ (n ≤ x) → is_set (replicate n false) x ≡ false
    by_less (inl less) = get_or-replicate n x false false less
    by_less (inr past) = get_or_past (replicate n false) x false (rw (length-replicate n false) past)

-- what is seen from a placed device that has a hop
pub record GoesUp (net : Network) (list : List Placed) (p : Placed) (hop : Hop) : Type 0 where
  pub parent : Placed
  pub found : placed_at list hop.parent ≡ Some parent
  pub deeper : p.depth ≡ parent.depth + 1
  pub way : way_up list p.device ≡ hop ∷ way_up list hop.parent
  pub within : hop.parent < length net.devices
  pub link : hop.link < length net.links

pub goes_up : (net : Network) (root : ℕ) (absent : Absent) (list : List Placed) (p : Placed) (hop : Hop) → Grows net root absent list
    → placed_at list p.device ≡ Some p → p.hop ≡ Some hop → GoesUp net list p hop
goes_up net root absent list p hop tree found has_hop = let s = stands list p.device p found in by_place s.place s.at
  where
    by_place : (i : ℕ) → slice_get list i ≡ Some p → GoesUp net list p hop
    by_place zero at = absurd (apart (sym has_hop ∙ ap (λ q. q.hop) (tree.first p at)))
      where
        apart : Some hop ≡ None → ⊥
        apart h = cc
    by_place (suc i) at =
        let b = behind net root absent list tree (suc i) p (omega arith) at in
        let same : b.hop ≡ hop = same_Some b.hop hop (sym b.has_hop ∙ has_hop) in
        subst (GoesUp net list p) same
        (record {
          parent = b.parent;
          found = ap (placed_at list) (sym b.leads) ∙ found_own net root absent list tree b.place b.parent b.at;
          deeper = b.deeper;
          way = way_step net root absent list tree (suc i) p at b;
          within = b.within;
          link = b.link;
        })

-- from one that has none
pub way_ends : (net : Network) (root : ℕ) (absent : Absent) (list : List Placed) (p : Placed) → Grows net root absent list → placed_at list p.device ≡ Some p
    → p.hop ≡ None → way_up list p.device ≡ []
way_ends net root absent list p tree found none = way_none net root absent list tree p.device (ap (option_and_then (λ q. q.hop)) found ∙ none)

-- what is left of a walk, and what was added of it
pub record IsUnderWay (list : List Placed) (own here : Placed) (old new : Things) : Type 0 where
  pub found : placed_at list here.device ≡ Some here
  pub device_size : length new.devices.items ≡ length old.devices.items
  pub link_size : length new.links.items ≡ length old.links.items
  pub device : (x : ℕ)
      → (is_set new.devices.items x || has (parents_of (way_up list here.device)) x)
      ≡ (is_set old.devices.items x || has (parents_of (way_up list own.device)) x)
  pub link : (x : ℕ)
      → (is_set new.links.items x || has (links_of (way_up list here.device)) x) ≡ (is_set old.links.items x || has (links_of (way_up list own.device)) x)

pub one_hop : (list : List Placed) (own here parent : Placed) (hop : Hop) (old new newer : Things) → IsUnderWay list own here old new
    → AddsAll (λ x. nat_eq x hop.parent) (λ x. nat_eq x hop.link) new newer
    → way_up list here.device ≡ hop ∷ way_up list hop.parent → parent.device ≡ hop.parent → placed_at list parent.device ≡ Some parent
    → IsUnderWay list own parent old newer
one_hop list own here parent hop old new newer so_far added way same found =
    record {
      found = found;
      device_size = added.device_size ∙ so_far.device_size;
      link_size = added.link_size ∙ so_far.link_size;
      device = λ x.
          ap (λ y. is_set newer.devices.items x || has (parents_of (way_up list y)) x) same
          ∙ ap (λ t. t || has (parents_of (way_up list hop.parent)) x) (added.device x)
          ∙ or_assoc (is_set new.devices.items x) (nat_eq x hop.parent) (has (parents_of (way_up list hop.parent)) x)
          ∙ sym (ap (λ hops. is_set new.devices.items x || has (parents_of hops) x) way)
          ∙ so_far.device x;
      link = λ x.
          ap (λ y. is_set newer.links.items x || has (links_of (way_up list y)) x) same
          ∙ ap (λ t. t || has (links_of (way_up list hop.parent)) x) (added.link x)
          ∙ or_assoc (is_set new.links.items x) (nat_eq x hop.link) (has (links_of (way_up list hop.parent)) x)
          ∙ sym (ap (λ hops. is_set new.links.items x || has (links_of hops) x) way)
          ∙ so_far.link x;
    }

pub way_done : (list : List Placed) (own here : Placed) (old new : Things) → IsUnderWay list own here old new → way_up list here.device ≡ []
    → AddsAll (has (parents_of (way_up list own.device))) (has (links_of (way_up list own.device))) old new
way_done list own here old new so_far over =
    record {
      device_size = so_far.device_size;
      link_size = so_far.link_size;
      device = λ x. sym (ap (λ hops. is_set new.devices.items x || has (parents_of hops) x) over ∙ or_none (is_set new.devices.items x)) ∙ so_far.device x;
      link = λ x. sym (ap (λ hops. is_set new.links.items x || has (links_of hops) x) over ∙ or_none (is_set new.links.items x)) ∙ so_far.link x;
    }

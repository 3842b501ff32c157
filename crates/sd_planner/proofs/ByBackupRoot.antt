-- The hops that serve as backup of the backup root.
use Rattle.std.proofs.Common.{◌≡◌, ℕ, Bool, true, false, ◌&&◌, ◌||◌, not, nat_eq, List, find, Some, if◌then◌else◌, refl, sym, ap, ◌∙◌}
use Rattle.std.specs.List.{list_any}
use Rattle.std.proofs.lemmas.Bool.{eq-eqb}
use Rattle.sd_plan.specs.topo.Network.{Network}
use Rattle.sd_plan.specs.domain.Domains.{domains, holds_device, holds_link, hits}
use Rattle.sd_plan.specs.declared.Hop.{Hop}
use Rattle.sd_plan.specs.declared.Absent.{Absent}
use Rattle.sd_plan.specs.Walks.{things_of, devices_of, links_of}
use Rattle.sd_planner.specs.Usable.{hops_from}
use Rattle.sd_planner.specs.declared.placement.Placed.{Placed}
use Rattle.sd_planner.specs.Spreading.{placed_at}
use Rattle.sd_planner.specs.Placing.{backup_root_of, placed}
use Rattle.sd_planner.specs.Trees.{Grows}
use Rattle.sd_planner.specs.Climbs.{way_up}
use Rattle.sd_planner.specs.Flags.{is_set}
use Rattle.sd_planner.specs.Serving.{walk_up, are_walks_joined, serves, serves_backup_root, backup_for}
use Rattle.sd_planner.specs.Things.{AreUnfit, shares_device, shares_link}
use Rattle.sd_planner.specs.declared.backups.things.Things.{Things}
use Rattle.sd_planner.proofs.Near.{by_parts}
use Rattle.sd_planner.proofs.Walking.{walk_is}

-- a hop that fails one of the tests
pub same_link : (link placed apart alone : Bool) → link ≡ true → false ≡ (not link && placed && apart && alone)
same_link true placed apart alone same = refl
same_link false placed apart alone same = cc

pub none_placed : (link placed apart alone : Bool) → placed ≡ false → false ≡ (not link && placed && apart && alone)
none_placed true placed apart alone fails = refl
none_placed false true apart alone fails = cc
none_placed false false apart alone fails = refl

pub is_joined : (front joined : Bool) → joined ≡ true → false ≡ (front && not joined)
is_joined true true same = refl
is_joined false true same = refl
is_joined front false same = cc

-- one that meets them
pub meets_all : (link placed behind joined : Bool) → link ≡ false → placed ≡ true → behind ≡ false
    → not joined ≡ (not link && placed && not behind && not joined)
meets_all false true false joined one two three = refl
meets_all true placed behind joined one two three = cc
meets_all link false behind joined one two three = cc
meets_all link placed true joined one two three = cc

module _ (net : Network) (root : ℕ) (absent : Absent) (grows : Grows net root absent (placed net root absent)) where
  abbrev order : List Placed
  order = placed net root absent

  -- what joins two walks, by what shares a domain with the first
  pub joined_parts : (b : ℕ) (hop : Hop) → are_walks_joined net root absent b hop
      ≡ ((shares_link net (way_up order b) hop.link || list_any (shares_link net (way_up order b)) (links_of (way_up order hop.parent)))
      || list_any (λ x. not (nat_eq x root) && shares_device net (way_up order b) x) (devices_of hop.parent (way_up order hop.parent)))
  joined_parts b hop =
      by_parts (λ f. hits net f (things_of (walk_up net root absent b))) (λ f. holds_link net f hop.link) (holds_link net) (holds_device net)
      (λ x. not (nat_eq x root))
      (links_of (walk_up net root absent hop.parent)) (devices_of hop.parent (walk_up net root absent hop.parent)) (domains net)
      ∙ ap
      (λ hops. (shares_link net hops hop.link || list_any (shares_link net hops) (links_of (walk_up net root absent hop.parent)))
      || list_any (λ x. not (nat_eq x root) && shares_device net hops x) (devices_of hop.parent (walk_up net root absent hop.parent)))
      (walk_is net root absent grows b)
      ∙ ap
      (λ hops. (shares_link net (way_up order b) hop.link || list_any (shares_link net (way_up order b)) (links_of hops))
      || list_any (λ x. not (nat_eq x root) && shares_device net (way_up order b) x) (devices_of hop.parent hops))
      (walk_is net root absent grows hop.parent)

  -- a flagged link joins them
  pub link_joins : (b : ℕ) (hop : Hop) (unfit : Things) → AreUnfit net root order (way_up order b) unfit → is_set unfit.links.items hop.link ≡ true
      → are_walks_joined net root absent b hop ≡ true
  link_joins b hop unfit are set =
      joined_parts b hop
      ∙ ap
      (λ t. (t || list_any (shares_link net (way_up order b)) (links_of (way_up order hop.parent)))
      || list_any (λ x. not (nat_eq x root) && shares_device net (way_up order b) x) (devices_of hop.parent (way_up order hop.parent)))
      (sym (are.link hop.link) ∙ set)

  -- else the flag of the parent tells
  pub parent_joins : (b : ℕ) (hop : Hop) (p : Placed) (unfit : Things) → AreUnfit net root order (way_up order b) unfit → placed_at order hop.parent ≡ Some p
      → is_set unfit.links.items hop.link ≡ false
      → are_walks_joined net root absent b hop ≡ is_set unfit.devices.items hop.parent
  parent_joins b hop p unfit are found unset =
      joined_parts b hop
      ∙ ap
      (λ t. (t || list_any (shares_link net (way_up order b)) (links_of (way_up order hop.parent)))
      || list_any (λ x. not (nat_eq x root) && shares_device net (way_up order b) x) (devices_of hop.parent (way_up order hop.parent)))
      (sym (are.link hop.link) ∙ unset)
      ∙ swap (list_any (shares_link net (way_up order b)) (links_of (way_up order hop.parent)))
      (list_any (λ x. not (nat_eq x root) && shares_device net (way_up order b) x) (devices_of hop.parent (way_up order hop.parent)))
      ∙ sym (are.device hop.parent p found)
    where
      swap : (a c : Bool) → (a || c) ≡ (c || a)
      swap true true = refl
      swap true false = refl
      swap false true = refl
      swap false false = refl

-- the backup of the backup root is the first hop that serves it
pub backup_is : (net : Network) (root : ℕ) (absent : Absent) (d : ℕ) (primary : Hop) → d ≡ backup_root_of net root absent
    → find (serves_backup_root net root absent d primary) (hops_from net absent d) ≡ backup_for net root absent d primary
backup_is net root absent d primary same =
    sym
    (ap (λ b. if b then find (serves_backup_root net root absent d primary) (hops_from net absent d) else find (serves net root absent d primary)
    (hops_from net absent d))
    (eq-eqb d (backup_root_of net root absent) same))

-- No cycle of parents, of the graph alone: where each ordinary device follows a hop of the loop condition's graph, and where whoever goes on
-- from the backup root goes along primary hops up to the root, from which nobody goes on for long. A cycle with the backup root would lead on from
-- it without end; one without it is a walk of that graph. All this is asked only of devices from which one can go on without end.
use Rattle.std.specs.Prelude.{◌≡◌, ℕ, zero, suc, Bool, true, false, List, [], ◌∷◌, Option, Some, None, option_and_then, refl, if◌then◌else◌, ◌⊎◌}
use Rattle.std.specs.List.{list_any}
use Rattle.std.proofs.Common.{◌∙◌, ap, sym, subst, inl, inr}
use Rattle.std.proofs.lemmas.Bool.{and_from, eqb-true}
use Rattle.sd_plan.specs.topo.Network.{Network}
use Rattle.sd_plan.specs.declared.domain.DomainId.{DomainId}
use Rattle.sd_plan.specs.declared.Hop.{Hop}
use Rattle.sd_plan.specs.declared.Plan.{Plan}
use Rattle.sd_plan.specs.Plans.{primary_of, is_root, is_backup_root}
use Rattle.sd_plan.specs.Walks.{hops, devices_of, end_of, walk}
use Rattle.sd_checker.specs.check_loop.Loops.{hops_of, same_hop, is_walk, HasNoCycle}
use Rattle.sd_num.specs.Lists.{follow}
use Rattle.sd_history.proofs.Among.{Among, first, later}
use Rattle.sd_history.proofs.Given.{some_is}

-- going along parents from d, over the devices of the list, leads to e
abbrev pub Leads : (ℕ → Option ℕ) → ℕ → List ℕ → ℕ → Type 0
Leads parent d [] e = d ≡ e
Leads parent d (x ∷ xs) e = (parent d ≡ Some x) × Leads parent x xs e

-- from x one can go on so often
abbrev pub Goes : (ℕ → Option ℕ) → ℕ → ℕ → Type 0
Goes parent zero x = Unit {0}
Goes parent (suc k) x = (y : ℕ) × (parent x ≡ Some y) × Goes parent k y

-- the device that the hop leads to
pub record Over (o : Option Hop) (z : ℕ) : Type 0 where
  pub hop : Hop
  pub is : o ≡ Some hop
  pub leads : hop.parent ≡ z

-- the edge from x to y is one that the loop condition counts
pub record IsEdge (net : Network) (plan : Plan) (f : DomainId) (x y : ℕ) : Type 0 where
  pub hop : Hop
  pub leads : hop.parent ≡ y
  pub allowed : list_any (same_hop hop) (hops_of net plan f x) ≡ true

module _ (parent : ℕ → Option ℕ) where
  pub follow_front : (n d : ℕ) (o : Option ℕ) → parent d ≡ o → follow parent (suc n) d ≡ option_and_then (follow parent n) o
  follow_front zero d None is = is
  follow_front zero d (Some x) is = is
  follow_front (suc n) d None is = ap (option_and_then parent) (follow_front n d None is)
  follow_front (suc n) d (Some x) is = ap (option_and_then parent) (follow_front n d (Some x) is)

  -- what follow says, as a list
  pub record IsLed (d e : ℕ) : Type 0 where
    pub over : List ℕ
    pub leads : Leads parent d over e

  led_on : (n d e : ℕ) (o : Option ℕ) → parent d ≡ o → option_and_then (follow parent n) o ≡ Some e → ((x : ℕ) → follow parent n x ≡ Some e → IsLed x e)
      → (x : ℕ) × (parent d ≡ Some x) × IsLed x e
  led_on n d e None is same rest = cc
  led_on n d e (Some x) is same rest = (x, is, rest x same)

  led : (n d e : ℕ) → follow parent n d ≡ Some e → IsLed d e
  led zero d e same = record { over = []; leads = some_is same }
  led (suc n) d e same =
      let on = led_on n d e (parent d) refl (sym (follow_front n d (parent d) refl) ∙ same) (λ x same'. led n x e same') in
      record { over = on.0 ∷ on.2.over; leads = (on.1, on.2.leads) }

  pub led_first : (n d : ℕ) → follow parent (suc n) d ≡ Some d → (x : ℕ) × (parent d ≡ Some x) × IsLed x d
  led_first n d same = led_on n d d (parent d) refl (sym (follow_front n d (parent d) refl) ∙ same) (λ x same'. led n x d same')

  -- A cycle at d: from each device on it one can go on without end.
  module _ (d next : ℕ) (others : List ℕ) (begins : parent d ≡ Some next) (round : Leads parent next others d) where
    goes : (k x : ℕ) (xs : List ℕ) → Leads parent x xs d → Goes parent k x
    goes zero x xs leads = tt
    goes (suc k) x [] leads = (next, ap parent leads ∙ begins, goes k next others round)
    goes (suc k) x (y ∷ ys) leads = (y, leads.0, goes k y ys leads.1)

  -- A climb: along primary hops to the root, which follows nobody.

  abbrev pub Endless : ℕ → Type 0
  Endless x = (k : ℕ) → Goes parent k x

  -- whoever goes on without end from a device of the walk follows its primary hop there
  abbrev pub Primaries : Plan → ℕ → List Hop → Type 0
  Primaries plan x hs = (y z : ℕ) → Among y (devices_of x hs) → Endless y → parent y ≡ Some z → Over (primary_of plan y) z

  next_is : (x y z : ℕ) → parent x ≡ Some y → parent x ≡ Some z → y ≡ z
  next_is x y z one two = some_is (sym one ∙ two)

  pub goes_on : (x y : ℕ) → parent x ≡ Some y → Endless x → Endless y
  goes_on x y follows endless k = let on = endless (suc k) in subst (λ z. Goes parent k z) (next_is x on.0 y on.1 follows) on.2

  module _ (plan : Plan) (root_stops : (x : ℕ) → is_root plan x ≡ true → Endless x → ⊥) where
    -- one who climbs these hops does not go on without end
    abbrev pub Stops : ℕ → List Hop → Type 0
    Stops x hs = is_root plan (end_of x hs) ≡ true → Primaries plan x hs → Endless x → ⊥

    follows_hop : (x : ℕ) (hop : Hop) → primary_of plan x ≡ Some hop → ((z : ℕ) → parent x ≡ Some z → Over (primary_of plan x) z) → Endless x
        → parent x ≡ Some hop.parent
    follows_hop x hop is over endless =
        let on = endless (suc zero) in
        let led : Over (primary_of plan x) on.0 = over on.0 on.1 in
        let same : hop ≡ led.hop = some_is (sym is ∙ led.is) in
        on.1 ∙ ap Some (sym led.leads ∙ sym (ap (λ h. h.parent) same))

    climb_when : (n x : ℕ) (hop : Hop) (b : Bool) → is_root plan hop.parent ≡ b → primary_of plan x ≡ Some hop
        → Stops hop.parent (hops (is_root plan) plan n hop.parent)
        → Stops x (hop ∷ (elim b [ true ↦ [] | false ↦ hops (is_root plan) plan n hop.parent ]))
    climb_when n x hop true root is above ends primaries endless =
        root_stops hop.parent root (goes_on x hop.parent (follows_hop x hop is (λ z. primaries x z first endless) endless) endless)
    climb_when n x hop false root is above ends primaries endless =
        above ends (λ y z a. primaries y z (later a)) (goes_on x hop.parent (follows_hop x hop is (λ z. primaries x z first endless) endless) endless)

    climb_by : (n x : ℕ) (o : Option Hop) → primary_of plan x ≡ o → ((y : ℕ) → Stops y (hops (is_root plan) plan n y))
        → Stops x (elim o [ None ↦ [] | Some hop ↦ hop ∷ (elim (is_root plan hop.parent) [ true ↦ [] | false ↦ hops (is_root plan) plan n hop.parent ]) ])
    climb_by n x None is above ends primaries endless = root_stops x ends endless
    climb_by n x (Some hop) is above ends primaries endless = climb_when n x hop (is_root plan hop.parent) refl is (above hop.parent) ends primaries endless

    pub climb : (n x : ℕ) → Stops x (hops (is_root plan) plan n x)
    climb zero x ends primaries endless = root_stops x ends endless
    climb (suc n) x ends primaries endless = climb_by n x (primary_of plan x) refl (λ y. climb n y) ends primaries endless

    walk_when : (net : Network) (x : ℕ) (b : Bool) → is_root plan x ≡ b → Stops x (if b then [] else hops (is_root plan) plan net.params.depth x)
    walk_when net x true root ends primaries endless = root_stops x root endless
    walk_when net x false root ends primaries endless = climb net.params.depth x ends primaries endless

    pub walk_stops : (net : Network) (x : ℕ) → Stops x (walk net plan x)
    walk_stops net x = walk_when net x (is_root plan x) refl

    -- A cycle without the backup root

    module _ (net : Network) (f : DomainId) where
      -- a walk of such edges
      record Walked (x e : ℕ) : Type 0 where
        pub hops : List Hop
        pub walked : is_walk net plan f x hops ≡ true
        pub ends : end_of x hops ≡ e

      -- a walk, or one came to the backup root and goes on from it without end
      abbrev Found : ℕ → ℕ → Type 0
      Found x e = Walked x e ⊎ Endless plan.backup_root

      module _ (counted : (x y : ℕ) → Endless x → is_backup_root plan x ≡ false → parent x ≡ Some y → IsEdge net plan f x y) where
        longer : (x y e : ℕ) → IsEdge net plan f x y → Walked y e → Walked x e
        longer x y e edge on =
            record {
              hops = edge.hop ∷ on.hops;
              walked = and_from (list_any (same_hop edge.hop) (hops_of net plan f x)) (is_walk net plan f edge.hop.parent on.hops) edge.allowed
                  (subst (λ z. is_walk net plan f z on.hops ≡ true) (sym edge.leads) on.walked);
              ends = subst (λ z. end_of z on.hops ≡ e) (sym edge.leads) on.ends;
            }

        found_when : (x y e : ℕ) (b : Bool) → is_backup_root plan x ≡ b → parent x ≡ Some y → Endless x → Found y e → Found x e
        found_when x y e true is follows endless rest = inr (subst (λ z. Endless z) (sym (eqb-true plan.backup_root x is)) endless)
        found_when x y e false is follows endless (inr more) = inr more
        found_when x y e false is follows endless (inl on) = inl (longer x y e (counted x y endless is follows) on)

        found : (x e : ℕ) (xs : List ℕ) → Leads parent x xs e → ((y : ℕ) (ys : List ℕ) → Leads parent y ys e → Endless y) → Found x e
        found x e [] leads endless = inl (record { hops = []; walked = refl; ends = leads })
        found x e (y ∷ ys) leads endless =
            found_when x y e (is_backup_root plan x) refl leads.0 (endless x (y ∷ ys) leads) (found y e ys leads.1 endless)

        no_walk_back : (d next : ℕ) → HasNoCycle net plan f → IsEdge net plan f d next → Walked next d → ⊥
        unfolding longer
        no_walk_back d next none edge on =
            let whole : Walked d d = longer d next d edge on in
            none d edge.hop on.hops whole.walked whole.ends

        no_cycle_when : (d next : ℕ) (b : Bool) → is_backup_root plan d ≡ b → HasNoCycle net plan f → parent d ≡ Some next → Endless d
            → (Endless plan.backup_root → ⊥) → Found next d → ⊥
        no_cycle_when d next true is none follows endless stops rest = stops (subst (λ z. Endless z) (sym (eqb-true plan.backup_root d is)) endless)
        no_cycle_when d next false is none follows endless stops (inr more) = stops more
        no_cycle_when d next false is none follows endless stops (inl on) = no_walk_back d next none (counted d next endless is follows) on

        -- where nobody goes on without end from the backup root, and the loop condition holds, following parents comes back to nobody
        pub no_cycle : HasNoCycle net plan f → (Endless plan.backup_root → ⊥) → (n d : ℕ) → follow parent (suc n) d ≡ Some d → ⊥
        no_cycle none stops n d same =
            let begin = led_first n d same in
            let endless : (x : ℕ) (xs : List ℕ) → Leads parent x xs d
            → Endless x = λ x xs leads k. goes d begin.0 begin.2.over begin.1 begin.2.leads k x xs leads in
            no_cycle_when d begin.0 (is_backup_root plan d) refl none begin.1 (endless d (begin.0 ∷ begin.2.over) (begin.1, begin.2.leads)) stops
            (found begin.0 d begin.2.over begin.2.leads endless)

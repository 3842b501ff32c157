-- Where hops lead in no circle, each device recovers in some way: a walk that comes to no device twice has fewer hops than there are devices.
use Rattle.std.specs.Prelude.{◌≡◌, ℕ, zero, suc, ◌+◌, ◌<◌, ◌≤◌, Bool, true, false, List, [], ◌∷◌, length, map, nat_eq, Decides, option_to_list, Option, Some, None, IfSome}
use Rattle.std.specs.List.{list_any, AllByRecursion, IsDistinct}
use Rattle.std.proofs.Common.{arith, refl, sym, ◌∙◌, subst, ◌⊎◌, inl, inr}
use Rattle.std.proofs.lemmas.List.{length-map}
use Rattle.std.proofs.lemmas.Bool.{and_parts, and_from, or_cases, or_parts, eqb-true, cases_lt, both_ways, false_from_ne_true, not-true, not_from_false}
use Rattle.std.proofs.lemmas.List.Folds.{list_any-append}
use Rattle.std.proofs.lemmas.Map.Steps.{length-le_from_distinct_below}
use Rattle.sd_num.specs.Lists.{has}
use Rattle.sd_plan.specs.topo.Network.{Network, bounds_of}
use Rattle.sd_plan.specs.topo.Limits.{IsNetwork}
use Rattle.sd_plan.specs.domain.Domains.{holds_device, holds_link}
use Rattle.sd_plan.specs.declared.domain.DomainId.{DomainId}
use Rattle.sd_plan.specs.declared.Hop.{Hop}
use Rattle.sd_plan.specs.declared.Plan.{Plan}
use Rattle.sd_plan.specs.Plans.{Fits}
use Rattle.sd_plan.specs.Walks.{devices_of, ends_walks, is_hit}
use Rattle.sd_plan.proofs.Rules.{KeepsRules}
use Rattle.sd_checker.specs.check_loop.Loops.{hops_of, same_hop, is_walk, HasNoCycle}
use Rattle.sd_checker.specs.check_reach.Reach.{Fed, is_sound}
use Rattle.sd_drill.specs.recovery.Feeding.{IsFedOver}
use Rattle.sd_drill.specs.recovery.Hops.{listed, hops_at, next_of, IsRightHop, BothAre}
use Rattle.sd_drill.specs.recovery.Reaches.{ReachesOf, ReachesFrom, BeginsWith, farther}
use Rattle.sd_drill.specs.recovery.Recoveries.{IsRecovery}
use Rattle.sd_drill.specs.recovery.Searches.{Leads}
use Rattle.sd_drill.specs.recovery.Walks.{IsWalk}
use Rattle.sd_drill.specs.declared.recovery.hops.Hops.{Hops}
use Rattle.sd_drill.specs.declared.recovery.reach.Reach.{Reach}
use Rattle.sd_drill.specs.declared.recovery.Recovery.{Recovery}
use Rattle.sd_drill.proofs.recovery.Hearing.{decides_unsound, decides_end, decides_spared, decides_turned, next_is}
use Rattle.sd_drill.proofs.recovery.Leading.{leads_by, leads_on, no_return, hop_among}
use Rattle.sd_drill.proofs.recovery.Reached.{reaches_nothing, over_overlong, over_too_long, over_reach, reaches_from, half_small}
use Rattle.sd_drill.proofs.recovery.Rows.{listed_is, right_hops}

-- some recovery of a device
abbrev pub HasRecovery : Network → Plan → DomainId → ℕ → Type 0
HasRecovery net plan f d = (r : Recovery) × IsRecovery net plan f d r

-- a reach of the walks that begin with a hop
abbrev HasReach : Network → Plan → DomainId → ℕ → Option Hop → Type 0
HasReach net plan f d first = (o : Option Reach) × ReachesOf net (BeginsWith net plan f first) d o

-- a test that tells
abbrev HasTest : Type 0 → Type 0
HasTest P = (b : Bool) × Decides b P

module _ (net : Network) (plan : Plan) (f : DomainId) (law : IsNetwork net) (fits : Fits net plan) (rules : KeepsRules net plan) where
  abbrev Parent : Hop → Type 0
  Parent hop = HasRecovery net plan f hop.parent

  reach_over : (d : ℕ) (first : Option Hop) → IfSome first (IsRightHop net d) → IfSome first Parent → HasReach net plan f d first
  reach_over d None right known = (Some (record { far = 0; long = 0 }), reaches_nothing net plan f d)
  reach_over d (Some hop) right known = by known.0.reach known.1.reach
    where
      by : (o : Option Reach) → ReachesFrom net plan f hop.parent o → HasReach net plan f d (Some hop)
      by None is = (None, over_overlong net plan f d hop is)
      by (Some reach) is =
          elim (cases_lt net.params.depth reach.long) [
            | inl much ↦ (None, over_too_long net plan f d hop reach much is)
            | inr few ↦ (
              Some (record { far = (bounds_of net hop.link d).half + reach.far; long = reach.long + 1 }),
              over_reach net plan f d hop reach few
                  (half_small net hop.link d law right.1.0) is,
            )
          ]

  fed_next : (next : Option Hop) → IfSome next Parent → HasTest (IsFedOver net plan f next)
  fed_next None known = (false, (λ same. cc, λ over. absurd over))
  fed_next (Some hop) known = by (holds_link net f hop.link) (holds_device net f hop.parent) refl refl
    where
      by : (link parent : Bool) → holds_link net f hop.link ≡ link → holds_device net f hop.parent ≡ parent → HasTest (IsFedOver net plan f (Some hop))
      by true parent is is' = (false, (λ same. cc, λ over. absurd (both_ways (holds_link net f hop.link) (not-true (holds_link net f hop.link) over.0) is)))
      by false true is is' =
          (false, (λ same. cc, λ over. absurd (both_ways (holds_device net f hop.parent) (not-true (holds_device net f hop.parent) over.1) is')))
      by false false is is' = (
        known.0.fed,
        (
          λ yes. (
            not_from_false (holds_link net f hop.link) is,
            not_from_false
                (holds_device net f hop.parent) is',
            known.1.fed.0 yes,
          ),
          λ over. known.1.fed.1 over.2,
        ),
      )

  next_known : (hops : Hops) → BothAre Parent hops → IfSome (next_of hops) Parent
  next_known hops known = by hops.backup known.1
    where
      by : (o : Option Hop) → IfSome o Parent → IfSome (next_of (record { primary = hops.primary; backup = o })) Parent
      by None none = known.0
      by (Some hop) some = some

  fed_by : (d : ℕ) → BothAre Parent (hops_at net plan f d) → HasTest (Fed net plan f d)
  fed_by d known = by (is_sound net plan f d) (ends_walks plan d) (is_hit net plan f d) refl refl refl
    where
      by : (sound ends hit : Bool) → is_sound net plan f d ≡ sound → ends_walks plan d ≡ ends → is_hit net plan f d ≡ hit → HasTest (Fed net plan f d)
      by false ends hit sound is at = (false, decides_unsound net plan f d sound)
      by true true hit sound is at = (true, decides_end net plan f d sound is)
      by true false false sound is at = (true, decides_spared net plan f d sound at)
      by true false true sound is at =
          let next = next_of (hops_at net plan f d) in
          let test = fed_next next (next_known (hops_at net plan f d) known) in
          (test.0, decides_turned net plan f d test.0 next (next_is net plan f d is at) sound is at test.1)

  -- a device recovers as those to which its hops lead
  recovers : (d : ℕ) → d < length net.devices → BothAre Parent (hops_at net plan f d) → HasRecovery net plan f d
  recovers d within known =
      let hops = hops_at net plan f d in
      let right = right_hops net plan f d fits rules within in
      let fed = fed_by d known in
      let primary = reach_over d hops.primary right.0 known.0 in
      let backup = reach_over d hops.backup right.1 known.1 in (
        record { fed = fed.0; reach = farther primary.0 backup.0 },
        record {
          fed = fed.1;
          reach = reaches_from net plan f d hops (listed_is net plan f d rules within) primary.0 backup.0 primary.1 backup.1;
        },
      )

  -- each hop on which a device may be leads to a device of the network
  parent_within : (d : ℕ) (h : Hop) → d < length net.devices → list_any (same_hop h) (hops_of net plan f d) ≡ true → h.parent < length net.devices
  parent_within d h within some =
      let right = right_hops net plan f d fits rules within in
      let hops = hops_at net plan f d in
      let listed_some : list_any (same_hop h) (listed hops) ≡ true =
      subst (λ (hs : List Hop). list_any (same_hop h) hs ≡ true) (sym (listed_is net plan f d rules within)) some in
      elim (or_cases (list_any (same_hop h) (option_to_list hops.primary)) (list_any (same_hop h) (option_to_list hops.backup))
      (sym (list_any-append (same_hop h) (option_to_list hops.primary) (option_to_list hops.backup)) ∙ listed_some)) [
        | inl one ↦ by hops.primary right.0 one
        | inr two ↦ by hops.backup right.1 two
      ]
    where
      by : (o : Option Hop) → IfSome o (IsRightHop net d) → list_any (same_hop h) (option_to_list o) ≡ true → h.parent < length net.devices
      by None right some = cc
      by (Some hop) right some = elim (or_cases (same_hop h hop) false some) [
        | inl same ↦ subst (λ (x : ℕ). x < length net.devices)
            (sym (eqb-true h.parent hop.parent (and_parts (nat_eq h.parent hop.parent) (nat_eq h.link hop.link) same).0)) right.0
        | inr none ↦ cc
      ]

  -- a hop that is there is one of those on which the device may be
  its_hop : (d : ℕ) (hop : Hop) → d < length net.devices → ((hops_at net plan f d).primary ≡ Some hop) ⊎ ((hops_at net plan f d).backup ≡ Some hop)
      → list_any (same_hop hop) (hops_of net plan f d) ≡ true
  its_hop d hop within one = hop_among net plan f d (hops_at net plan f d) (listed_is net plan f d rules within) hop one

  -- a walk over a device leads to it
  leads_over : (d x : ℕ) (hs : List Hop) → IsWalk net plan f d hs → has (map (λ hop. hop.parent) hs) x ≡ true → Leads net plan f d x
  leads_over d x [] walked over_ = cc
  leads_over d x (h ∷ hs) walked over_ =
      let both = and_parts (list_any (same_hop h) (hops_of net plan f d)) (is_walk net plan f h.parent hs) walked in
      let first : Leads net plan f d h.parent = leads_by net plan f d h both.0 in
      elim (or_cases (nat_eq x h.parent) (has (map (λ hop. hop.parent) hs) x) over_) [
        | inl here ↦ subst (λ (y : ℕ). Leads net plan f d y) (sym (eqb-true x h.parent here)) first
        | inr later ↦ leads_on net plan f d h.parent x first (leads_over h.parent x hs both.1 later)
      ]

  differs : (x : ℕ) (xs : List ℕ) → has xs x ≡ false → AllByRecursion (λ y. nat_eq x y ≡ false) xs
  differs x [] none = tt
  differs x (y ∷ ys) none = let parts = or_parts (nat_eq x y) (has ys x) none in (parts.0, differs x ys parts.1)

  module _ (acyclic : HasNoCycle net plan f) where
    -- so none comes to a device twice
    once : (d : ℕ) (hs : List Hop) → IsWalk net plan f d hs → IsDistinct nat_eq (devices_of d hs)
    unfolding IsDistinct
    once d [] walked = (tt, tt)
    once d (h ∷ hs) walked =
        let both = and_parts (list_any (same_hop h) (hops_of net plan f d)) (is_walk net plan f h.parent hs) walked in
        let away : has (h.parent ∷ map (λ hop. hop.parent) hs) d ≡ false =
        false_from_ne_true (has (h.parent ∷ map (λ hop. hop.parent) hs) d) (λ back. no_return net plan f acyclic d (leads_over d d (h ∷ hs) walked back)) in
        (differs d (h.parent ∷ map (λ hop. hop.parent) hs) away, once h.parent hs both.1)

    all_within : (d x : ℕ) (hs : List Hop) → d < length net.devices → IsWalk net plan f d hs → has (devices_of d hs) x ≡ true → x < length net.devices
    all_within d x [] within walked on =
        elim (or_cases (nat_eq x d) false on) [ inl here ↦ subst (λ (y : ℕ). y < length net.devices) (sym (eqb-true x d here)) within | inr none ↦ cc ]
    all_within d x (h ∷ hs) within walked on =
        let both = and_parts (list_any (same_hop h) (hops_of net plan f d)) (is_walk net plan f h.parent hs) walked in
        elim (or_cases (nat_eq x d) (has (devices_of h.parent hs) x) on) [
          | inl here ↦ subst (λ (y : ℕ). y < length net.devices) (sym (eqb-true x d here)) within
          | inr later ↦ all_within h.parent x hs (parent_within d h within both.0) both.1 later
        ]

    -- so it has fewer hops than there are devices
    short : (d : ℕ) (hs : List Hop) → d < length net.devices → IsWalk net plan f d hs → length (devices_of d hs) ≤ length net.devices
    short d hs within walked =
        length-le_from_distinct_below (devices_of d hs) (length net.devices) (once d hs walked) (λ x on. all_within d x hs within walked on)

    -- no walk from the device has n hops
    abbrev HasFewer : ℕ → ℕ → Type 0
    HasFewer n d = (hs : List Hop) → IsWalk net plan f d hs → length hs < n

    fewer_behind : (n d : ℕ) (hop : Hop) → list_any (same_hop hop) (hops_of net plan f d) ≡ true → HasFewer (suc n) d → HasFewer n hop.parent
    fewer_behind n d hop some fewer hs walked = let less : length (hop ∷ hs) < suc n =
        fewer (hop ∷ hs) (and_from (list_any (same_hop hop) (hops_of net plan f d)) (is_walk net plan f hop.parent hs) some walked) in omega (arith, less)

    -- those to which the hops of a device lead recover
    all_known : (d : ℕ) → d < length net.devices → ((hop : Hop) → list_any (same_hop hop) (hops_of net plan f d) ≡ true → HasRecovery net plan f hop.parent)
        → BothAre Parent (hops_at net plan f d)
    all_known d within each = (
      known (hops_at net plan f d).primary (λ hop is. its_hop d hop within (inl is)),
      known (hops_at net plan f d).backup
          (λ hop is. its_hop d hop within (inr is)),
    )
      where
        known : (o : Option Hop) → ((hop : Hop) → o ≡ Some hop → list_any (same_hop hop) (hops_of net plan f d) ≡ true) → IfSome o Parent
        known None among = tt
        known (Some hop) among = each hop (among hop refl)

    by_count : (n d : ℕ) → d < length net.devices → HasFewer n d → HasRecovery net plan f d
    by_count zero d within fewer = absurd (none (fewer [] refl))
      where
        none : 0 < zero → ⊥
        none less = omega (arith, less)
    by_count (suc n) d within fewer =
        recovers d within (all_known d within (λ hop some. by_count n hop.parent (parent_within d hop within some) (fewer_behind n d hop some fewer)))

    pub has_recovery : (d : ℕ) → d < length net.devices → HasRecovery net plan f d
    has_recovery d within = by_count (length net.devices) d within (λ hs walked. (let few = short d hs within walked in omega (arith, few, size hs)))
      where
        size : (hs : List Hop) → length (devices_of d hs) ≡ length hs + 1
        size hs = omega (arith, length-map hs (λ hop. hop.parent))

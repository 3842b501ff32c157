-- What walks reach, by what those reach that begin with each hop.
use Rattle.std.specs.Prelude.{◌≡◌, ℕ, ◌+◌, ◌^◌, ◌<◌, ◌≤◌, Bool, true, false, ◌||◌, List, [], ◌∷◌, length, max, nat_eq, option_to_list, Option, Some, None, if◌then◌else◌}
use Rattle.std.specs.List.{list_any}
use Rattle.std.proofs.Common.{arith, refl, sym, ap, ◌∙◌, subst, ◌⊎◌, inl, inr}
use Rattle.std.proofs.lemmas.Bool.{and_parts, and_from, or_cases, or_left, or_right, cases_lt}
use Rattle.std.proofs.lemmas.List.Folds.{list_any-append}
use Rattle.sd_plan.specs.topo.Network.{Network, bounds_of, link_of, delay_towards}
use Rattle.sd_plan.specs.topo.Limits.{IsNetwork, IsLink}
use Rattle.sd_plan.specs.declared.topo.Delay.{Delay}
use Rattle.sd_plan.specs.declared.topo.LinkEntry.{LinkEntry}
use Rattle.sd_plan.proofs.topo.Laws.{link_law}
use Rattle.sd_plan.specs.declared.domain.DomainId.{DomainId}
use Rattle.sd_plan.specs.declared.Hop.{Hop}
use Rattle.sd_plan.specs.declared.Plan.{Plan}
use Rattle.sd_checker.specs.check_loop.Loops.{hops_of, same_hop, is_walk}
use Rattle.sd_checker.proofs.Exclusive.{same_self}
use Rattle.sd_drill.specs.recovery.Walks.{halves, IsWalk, IsGreatestOf}
use Rattle.sd_drill.specs.recovery.Reaches.{IsReachOf, IsOverlong, ReachesOf, ReachesFrom, BeginsWith, farther}
use Rattle.sd_drill.specs.recovery.Hops.{listed}
use Rattle.sd_drill.specs.declared.recovery.hops.Hops.{Hops}
use Rattle.sd_drill.specs.declared.recovery.reach.Reach.{Reach}
use Rattle.sd_drill.proofs.Shared.{same_hop_same}

-- the greatest of two kinds of lists together
module _ (A B C : List Hop → Type 0) (left : (hs : List Hop) → A hs → C hs) (right : (hs : List Hop) → B hs → C hs) (parts : (hs : List Hop) → C hs
    → A hs ⊎ B hs) where
  greatest_both : (m : List Hop → ℕ) (x y : ℕ) → IsGreatestOf A m x → IsGreatestOf B m y → IsGreatestOf C m (max x y)
  greatest_both m x y a b =
      elim (cases_lt x y) [
        | inl less ↦ record { hops = b.hops; has = right b.hops b.has; reached = b.reached ∙ second less; greatest = all }
        | inr more ↦ record { hops = a.hops; has = left a.hops a.has; reached = a.reached ∙ first more; greatest = all }
      ]
    where
      second : x < y → y ≡ max x y
      second less = omega (arith, less)

      first : y ≤ x → x ≡ max x y
      first more = omega (arith, more)

      all : (others : List Hop) → C others → m others ≤ max x y
      all others has =
          elim (parts others has) [
            | inl one ↦ (let most = a.greatest others one in omega (arith, most))
            | inr two ↦ (let most = b.greatest others two in omega (arith, most))
          ]

  pub reaches_both : (net : Network) (d : ℕ) (a b : Option Reach) → ReachesOf net A d a → ReachesOf net B d b → ReachesOf net C d (farther a b)
  reaches_both net d None b x y = record { hops = x.hops; has = left x.hops x.has; more = x.more }
  reaches_both net d (Some a) None x y = record { hops = y.hops; has = right y.hops y.has; more = y.more }
  reaches_both net d (Some a) (Some b) x y =
      record {
        far = greatest_both (halves net d) a.far b.far x.far y.far;
        long = greatest_both length a.long b.long x.long y.long;
        within = omega (arith, x.within, y.within);
        bound = omega (arith, x.bound, y.bound);
      }

wrong : {X : Type 0} → false ≡ true → X
wrong same = cc

-- the one hop of a list
pub one_is : (h hop : Hop) → list_any (same_hop h) (option_to_list (Some hop)) ≡ true → h ≡ hop
one_is h hop some = elim (or_cases (same_hop h hop) false some) [ inl here ↦ same_hop_same h hop here | inr none ↦ wrong none ]

one_has : (hop : Hop) → list_any (same_hop hop) (option_to_list (Some hop)) ≡ true
one_has hop = or_left (same_hop hop hop) false (same_self hop)

module _ (net : Network) (plan : Plan) (f : DomainId) where
  -- with no hop there is no walk but the empty one
  pub reaches_nothing : (d : ℕ) → ReachesOf net (BeginsWith net plan f None) d (Some (record { far = 0; long = 0 }))
  reaches_nothing d =
      record {
        far = record { hops = []; has = tt; reached = refl; greatest = no_farther };
        long = record { hops = []; has = tt; reached = refl; greatest = no_longer };
        within = omega arith;
        bound = omega arith;
      }
    where
      no_farther : (others : List Hop) → BeginsWith net plan f None others → halves net d others ≤ 0
      no_farther [] has = omega arith
      no_farther (h ∷ hs) has = wrong has.0

      no_longer : (others : List Hop) → BeginsWith net plan f None others → length others ≤ 0
      no_longer [] has = omega arith
      no_longer (h ∷ hs) has = wrong has.0

  module _ (d : ℕ) (hop : Hop) where
    abbrev half : ℕ
    half = (bounds_of net hop.link d).half

    begun : (hs : List Hop) → IsWalk net plan f hop.parent hs → BeginsWith net plan f (Some hop) (hop ∷ hs)
    begun hs walked = (one_has hop, walked)

    behind : (h : Hop) (hs : List Hop) → BeginsWith net plan f (Some hop) (h ∷ hs) → IsWalk net plan f hop.parent hs
    behind h hs has = subst (λ (x : Hop). IsWalk net plan f x.parent hs) (one_is h hop has.0) has.1

    pub over_overlong : IsOverlong net (IsWalk net plan f hop.parent) → IsOverlong net (BeginsWith net plan f (Some hop))
    over_overlong long = let more = long.more in record { hops = hop ∷ long.hops; has = begun long.hops long.has; more = omega (arith, more) }

    pub over_too_long : (reach : Reach) → net.params.depth < reach.long → IsReachOf net (IsWalk net plan f hop.parent) hop.parent reach
        → IsOverlong net (BeginsWith net plan f (Some hop))
    over_too_long reach much is =
        let size : length is.long.hops ≡ reach.long = is.long.reached in
        record { hops = hop ∷ is.long.hops; has = begun is.long.hops is.long.has; more = omega (arith, size, much) }

    pub over_reach : (reach : Reach) → reach.long ≤ net.params.depth → half ≤ 10 ^ 12 → IsReachOf net (IsWalk net plan f hop.parent) hop.parent reach
        → IsReachOf net (BeginsWith net plan f (Some hop)) d (record { far = half + reach.far; long = reach.long + 1 })
    over_reach reach few small is =
        let size : length is.long.hops ≡ reach.long = is.long.reached in
        let most = is.bound in
        record {
          far = record { hops = hop ∷ is.far.hops; has = begun is.far.hops is.far.has; reached = ap (λ n. half + n) is.far.reached; greatest = no_farther };
          long = record { hops = hop ∷ is.long.hops; has = begun is.long.hops is.long.has; reached = omega (arith, size); greatest = no_longer };
          within = omega (arith, few);
          bound = omega (arith, most, small);
        }
      where
        no_farther : (others : List Hop) → BeginsWith net plan f (Some hop) others → halves net d others ≤ half + reach.far
        no_farther [] has = omega arith
        no_farther (h ∷ hs) has =
            let most : halves net hop.parent hs ≤ reach.far = is.far.greatest hs (behind h hs has) in
            subst (λ (x : Hop). halves net d (x ∷ hs) ≤ half + reach.far) (sym (one_is h hop has.0)) (omega (arith, most))

        no_longer : (others : List Hop) → BeginsWith net plan f (Some hop) others → length others ≤ reach.long + 1
        no_longer [] has = omega arith
        no_longer (h ∷ hs) has = let most : length hs ≤ reach.long = is.long.greatest hs (behind h hs has) in omega (arith, most)

  -- the walks from a device are those that begin with one of its two hops
  module _ (d : ℕ) (hops : Hops) (are : listed hops ≡ hops_of net plan f d) where
    among : (h : Hop) → list_any (same_hop h) (listed hops) ≡ true → list_any (same_hop h) (hops_of net plan f d) ≡ true
    among h some = subst (λ (xs : List Hop). list_any (same_hop h) xs ≡ true) are some

    split : (h : Hop)
        → list_any (same_hop h) (listed hops) ≡ (list_any (same_hop h) (option_to_list hops.primary) || list_any (same_hop h) (option_to_list hops.backup))
    split h = list_any-append (same_hop h) (option_to_list hops.primary) (option_to_list hops.backup)

    from : (first : Option Hop) → ((h : Hop) → list_any (same_hop h) (option_to_list first) ≡ true → list_any (same_hop h) (listed hops) ≡ true)
        → (hs : List Hop) → BeginsWith net plan f first hs → IsWalk net plan f d hs
    from first has [] begins = refl
    from first has (h ∷ hs) begins =
        and_from (list_any (same_hop h) (hops_of net plan f d)) (is_walk net plan f h.parent hs) (among h (has h begins.0)) begins.1

    by_primary : (h : Hop) → list_any (same_hop h) (option_to_list hops.primary) ≡ true → list_any (same_hop h) (listed hops) ≡ true
    by_primary h some = split h ∙ or_left (list_any (same_hop h) (option_to_list hops.primary)) (list_any (same_hop h) (option_to_list hops.backup)) some

    by_backup : (h : Hop) → list_any (same_hop h) (option_to_list hops.backup) ≡ true → list_any (same_hop h) (listed hops) ≡ true
    by_backup h some = split h ∙ or_right (list_any (same_hop h) (option_to_list hops.primary)) (list_any (same_hop h) (option_to_list hops.backup)) some

    parted : (hs : List Hop) → IsWalk net plan f d hs → BeginsWith net plan f hops.primary hs ⊎ BeginsWith net plan f hops.backup hs
    parted [] walked = inl tt
    parted (h ∷ hs) walked =
        let both = and_parts (list_any (same_hop h) (hops_of net plan f d)) (is_walk net plan f h.parent hs) walked in
        let some : list_any (same_hop h) (listed hops) ≡ true = subst (λ (xs : List Hop). list_any (same_hop h) xs ≡ true) (sym are) both.0 in
        elim (or_cases (list_any (same_hop h) (option_to_list hops.primary)) (list_any (same_hop h) (option_to_list hops.backup)) (sym (split h) ∙ some)) [
          | inl one ↦ inl (one, both.1)
          | inr two ↦ inr (two, both.1)
        ]

    pub reaches_from : (a b : Option Reach) → ReachesOf net (BeginsWith net plan f hops.primary) d a → ReachesOf net (BeginsWith net plan f hops.backup) d b
        → ReachesFrom net plan f d (farther a b)
    reaches_from a b x y =
        reaches_both (BeginsWith net plan f hops.primary) (BeginsWith net plan f hops.backup) (IsWalk net plan f d)
        (from hops.primary by_primary) (from hops.backup by_backup) parted net d a b x y

-- the bounds of a direction
abbrev direction : LinkEntry → Bool → Delay
direction link b = if b then record { min = link.min; max = link.max } else record { min = link.back_min; max = link.back_max }

direction_small : (link : LinkEntry) (b : Bool) → link.max ≤ 10 ^ 12 → link.back_max ≤ 10 ^ 12 → (direction link b).max ≤ 10 ^ 12
direction_small link true forth back = forth
direction_small link false forth back = back

-- a half is no more than the greatest delay
pub half_small : (net : Network) (l d : ℕ) → IsNetwork net → l < length net.links → (bounds_of net l d).half ≤ 10 ^ 12
half_small net l d law within =
    let laws : IsLink (length net.devices) (link_of net l) = link_law net l law within in
    let most : (delay_towards (link_of net l) d).max ≤ 10 ^ 12 =
    direction_small (link_of net l) (nat_eq d (link_of net l).end_b) laws.bounds.1 laws.back_bounds.1 in
    omega (arith, most)

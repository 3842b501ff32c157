-- Sums of halves along hops fall with less slack, and where walks have a greatest length, they have a greatest sum.
use Rattle.std.specs.Prelude.{◌≡◌, ℕ, zero, suc, ◌+◌, ◌-◌, ◌/◌, ◌<◌, ◌≤◌, Bool, true, false, List, [], ◌∷◌, length, max, nat_eq, Option, Some, None, IsTrue, ◌⊎◌}
use Rattle.std.specs.List.{list_any}
use Rattle.std.proofs.Common.{arith, refl, ap, ◌∙◌, subst, inl, inr}
use Rattle.std.proofs.lemmas.Bool.{cases_lt, and_parts, and_from, or_cases, or_left, or_right}
use Rattle.sd_num.specs.Lists.{map_or}
use Rattle.sd_num.specs.Numbers.{correction}
use Rattle.sd_plan.specs.topo.Network.{Network, link_of, delay_towards, bounds_of}
use Rattle.sd_plan.specs.declared.topo.LinkEntry.{LinkEntry}
use Rattle.sd_plan.specs.declared.domain.DomainId.{DomainId}
use Rattle.sd_plan.specs.declared.Hop.{Hop}
use Rattle.sd_plan.specs.declared.Plan.{Plan}
use Rattle.sd_plan.specs.Plans.{backup_of}
use Rattle.sd_plan.specs.Walks.{walk}
use Rattle.sd_checker.specs.check_loop.Loops.{hops_of, same_hop, is_walk}
use Rattle.sd_drill.specs.Drill.{root_halves}
use Rattle.sd_drill.specs.recovery.Walks.{halves, IsWalk, IsGreatestOf}
use Rattle.sd_checker.proofs.Exclusive.{same_self}
use Rattle.sd_drill.proofs.Shared.{same_hop_same}
use Rattle.sd_bound.specs.slack.Tighter.{IsTighterEntry, IsTighter}
use Rattle.sd_bound.proofs.slack.Alike.{walk_same}
use Rattle.sd_bound.proofs.slack.Matching.{entries, shape_of}

-- Halves

-- the half of narrower bounds is no greater
narrower : (m M n N : ℕ) → m ≤ n → N ≤ M → N - (n + N) / 2 ≤ M - (m + M) / 2
narrower m M n N least most = omega (arith, least, most)

abbrev half_towards : LinkEntry → ℕ → ℕ
half_towards link d = (correction (delay_towards link d).min (delay_towards link d).max).half

half_by : (x y : LinkEntry) → IsTighterEntry x y → (d : ℕ) (t : Bool) → nat_eq d x.end_b ≡ t → half_towards y d ≤ half_towards x d
half_by x y tighter d true is =
    let also : nat_eq d y.end_b ≡ true = ap (λ (e : ℕ). nat_eq d e) tighter.end_b ∙ is in
    rw (is, also) (narrower x.min x.max y.min y.max tighter.delay.0 tighter.delay.1)
half_by x y tighter d false is =
    let also : nat_eq d y.end_b ≡ false = ap (λ (e : ℕ). nat_eq d e) tighter.end_b ∙ is in
    rw (is, also) (narrower x.back_min x.back_max y.back_min y.back_max tighter.back_delay.0 tighter.back_delay.1)

module _ (before after : Network) (tighter : IsTighter before after) where
  half_falls : (l d : ℕ) → (bounds_of after l d).half ≤ (bounds_of before l d).half
  half_falls l d = half_by (link_of before l) (link_of after l) (entries before.links after.links tighter.links l) d (nat_eq d (link_of before l).end_b) refl

  pub halves_fall : (d : ℕ) (hs : List Hop) → halves after d hs ≤ halves before d hs
  halves_fall d [] = omega arith
  halves_fall d (hop ∷ hs) = omega (arith, half_falls hop.link d, halves_fall hop.parent hs)

  module _ (plan : Plan) where
    abbrev over_primary : Network → ℕ
    over_primary net = halves net plan.backup_root (walk net plan plan.backup_root)

    abbrev over_backup : Network → Option Hop → ℕ
    over_backup net backup = map_or backup 0 (λ hop. halves net plan.backup_root (hop ∷ walk net plan hop.parent))

    primary_falls : over_primary after ≤ over_primary before
    primary_falls =
        subst (λ (hs : List Hop). halves after plan.backup_root hs ≤ over_primary before)
        (walk_same before after (shape_of before after tighter) plan plan.backup_root)
        (halves_fall plan.backup_root (walk before plan plan.backup_root))

    backup_falls : (o : Option Hop) → over_backup after o ≤ over_backup before o
    backup_falls None = omega arith
    backup_falls (Some hop) =
        subst (λ (hs : List Hop). halves after plan.backup_root (hop ∷ hs) ≤ over_backup before (Some hop))
        (walk_same before after (shape_of before after tighter) plan hop.parent)
        (halves_fall plan.backup_root (hop ∷ walk before plan hop.parent))

    pub root_halves_fall : root_halves after plan ≤ root_halves before plan
    root_halves_fall =
        greater (over_primary after) (over_backup after (backup_of plan plan.backup_root)) (over_primary before)
        (over_backup before (backup_of plan plan.backup_root)) primary_falls (backup_falls (backup_of plan plan.backup_root))
      where
        greater : (a b c d : ℕ) → a ≤ c → b ≤ d → max a b ≤ max c d
        greater a b c d first second = omega (arith, first, second)

-- The greatest sum

module _ (net : Network) (plan : Plan) (f : DomainId) where
  -- a walk whose first hop is one of these, or that has none
  abbrev BeginsAmong : List Hop → List Hop → Type 0
  BeginsAmong firsts [] = Unit {0}
  BeginsAmong firsts (h ∷ hs) = IsTrue (list_any (same_hop h) firsts) × IsWalk net plan f h.parent hs

  abbrev pub HasGreatest : (List Hop → Type 0) → ℕ → Type 0
  HasGreatest Has d = (g : ℕ) × IsGreatestOf Has (halves net d) g

  abbrev pub GreatestFrom : ℕ → Type 0
  GreatestFrom d = HasGreatest (IsWalk net plan f d) d

  none_among : (d : ℕ) → HasGreatest (BeginsAmong []) d
  none_among d = (0, record { hops = []; has = tt; reached = refl; greatest = most })
    where
      most : (others : List Hop) → BeginsAmong [] others → halves net d others ≤ 0
      most [] has = omega arith
      most (h ∷ hs) has = let never = has.0 in cc

  -- the greater of what the first hop reaches and what the others reach
  one_more : (d : ℕ) (h : Hop) (firsts : List Hop) → GreatestFrom h.parent → HasGreatest (BeginsAmong firsts) d → HasGreatest (BeginsAmong (h ∷ firsts)) d
  one_more d h firsts (g, one) (r, rest) = by (cases_lt ((bounds_of net h.link d).half + g) r)
    where
      widened : (others : List Hop) → BeginsAmong firsts others → BeginsAmong (h ∷ firsts) others
      widened [] has = tt
      widened (x ∷ xs) has = (or_right (same_hop x h) (list_any (same_hop x) firsts) has.0, has.1)

      most : (m : ℕ) → (bounds_of net h.link d).half + g ≤ m → r ≤ m → (others : List Hop) → BeginsAmong (h ∷ firsts) others → halves net d others ≤ m
      most m far wide [] has = omega arith
      most m far wide (x ∷ xs) has =
          elim (or_cases (same_hop x h) (list_any (same_hop x) firsts) has.0) [
            | inl here ↦
                (let same : x ≡ h = same_hop_same x h here in
                let less : halves net h.parent xs ≤ g = one.greatest xs (subst (λ (y : Hop). IsWalk net plan f y.parent xs) same has.1) in
                let first : (bounds_of net x.link d).half + halves net x.parent xs ≡ (bounds_of net h.link d).half + halves net h.parent xs =
                ap (λ (y : Hop). (bounds_of net y.link d).half + halves net y.parent xs) same in
                omega (arith, first, less, far))
            | inr later ↦ (let less : halves net d (x ∷ xs) ≤ r = rest.greatest (x ∷ xs) (later, has.1) in omega (arith, less, wide))
          ]

      by : ((bounds_of net h.link d).half + g < r) ⊎ (r ≤ (bounds_of net h.link d).half + g) → HasGreatest (BeginsAmong (h ∷ firsts)) d
      by (inl less) =
          (r, record { hops = rest.hops; has = widened rest.hops rest.has; reached = rest.reached; greatest = most r (omega (arith, less)) (omega arith) })
      by (inr more) = (
        (bounds_of net h.link d).half + g,
        record {
          hops = h ∷ one.hops;
          has = (or_left (same_hop h h) (list_any (same_hop h) firsts) (same_self h), one.has);
          reached = ap (λ (n : ℕ). (bounds_of net h.link d).half + n) one.reached;
          greatest = most ((bounds_of net h.link d).half + g) (omega arith) more;
        },
      )

  of_firsts : (d : ℕ) (firsts : List Hop) → ((h : Hop) → list_any (same_hop h) firsts ≡ true → GreatestFrom h.parent) → HasGreatest (BeginsAmong firsts) d
  of_firsts d [] each = none_among d
  of_firsts d (h ∷ firsts) each =
      one_more d h firsts (each h (or_left (same_hop h h) (list_any (same_hop h) firsts) (same_self h)))
      (of_firsts d firsts (λ x some. each x (or_right (same_hop x h) (list_any (same_hop x) firsts) some)))

  -- a walk is one that begins with a hop of its device
  to_walk : (d : ℕ) (hs : List Hop) → BeginsAmong (hops_of net plan f d) hs → IsWalk net plan f d hs
  to_walk d [] has = refl
  to_walk d (h ∷ hs) has = and_from (list_any (same_hop h) (hops_of net plan f d)) (is_walk net plan f h.parent hs) has.0 has.1

  from_walk : (d : ℕ) (hs : List Hop) → IsWalk net plan f d hs → BeginsAmong (hops_of net plan f d) hs
  from_walk d [] walked = tt
  from_walk d (h ∷ hs) walked = and_parts (list_any (same_hop h) (hops_of net plan f d)) (is_walk net plan f h.parent hs) walked

  as_walks : (d : ℕ) → HasGreatest (BeginsAmong (hops_of net plan f d)) d → GreatestFrom d
  as_walks d (g, is) =
      let most = λ (others : List Hop) (walked : IsWalk net plan f d others). is.greatest others (from_walk d others walked) in
      (g, record { hops = is.hops; has = to_walk d is.hops is.has; reached = is.reached; greatest = most })

  -- no walk has n hops
  abbrev pub HasFewer : ℕ → ℕ → Type 0
  HasFewer n d = (hs : List Hop) → IsWalk net plan f d hs → length hs < n

  fewer_behind : (n d : ℕ) (h : Hop) → list_any (same_hop h) (hops_of net plan f d) ≡ true → HasFewer (suc n) d → HasFewer n h.parent
  fewer_behind n d h some fewer hs walked =
      let less : length (h ∷ hs) < suc n =
      fewer (h ∷ hs) (and_from (list_any (same_hop h) (hops_of net plan f d)) (is_walk net plan f h.parent hs) some walked) in
      omega (arith, less)

  pub greatest_sum : (n d : ℕ) → HasFewer n d → GreatestFrom d
  greatest_sum zero d fewer = absurd (none (fewer [] refl))
    where
      none : 0 < zero → ⊥
      none less = omega (arith, less)
  greatest_sum (suc n) d fewer =
      as_walks d (of_firsts d (hops_of net plan f d) (λ h some. greatest_sum n h.parent (fewer_behind n d h some fewer)))

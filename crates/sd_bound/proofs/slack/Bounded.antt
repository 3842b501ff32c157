-- A device that has a bound has one with less slack, too, and it is no greater.
use Rattle.std.specs.Prelude.{◌≡◌, ℕ, zero, suc, ◌+◌, ◌*◌, ◌<◌, ◌≤◌, List, [], ◌∷◌, length, max, Option, Some, None}
use Rattle.std.specs.List.{AllZip}
use Rattle.std.proofs.Common.{arith, refl, sym, subst}
use Rattle.std.proofs.lemmas.Nat.{mul-le}
use Rattle.sd_num.specs.Lists.{at_place}
use Rattle.sd_plan.specs.topo.Limits.{IsNetwork}
use Rattle.sd_plan.specs.topo.Network.{Network, Device, no_rates, rates_of, greatest_up}
use Rattle.sd_plan.specs.declared.domain.DomainId.{DomainId}
use Rattle.sd_plan.specs.declared.Plan.{Plan}
use Rattle.sd_checker.specs.check_root.Timing.{silence}
use Rattle.sd_drill.specs.ages.Ages.{ageing}
use Rattle.sd_drill.specs.recovery.Walks.{halves, IsWalk, IsGreatestOf}
use Rattle.sd_drill.specs.Drill.{root_halves, settling, quiet, source, IsWorst, IsListed}
use Rattle.sd_drill.specs.Bounds.{bound_at}
use Rattle.sd_drill.specs.declared.Budget.{Budget}
use Rattle.sd_plan.proofs.topo.Laws.{rates_law}
use Rattle.sd_bound.specs.slack.Tighter.{AreTighterRates, IsTighterDevice, IsTighter, IsSameDomain}
use Rattle.sd_bound.specs.slack.Slack.{NoBoundRises, NoListedBoundRises, NoBoundAppears}
use Rattle.sd_bound.proofs.slack.Ages.{some_oldest, ageing_falls, younger_falls, oldest_after}
use Rattle.sd_bound.proofs.slack.Alike.{HasShape, HasThings, shape_back, things_back}
use Rattle.sd_bound.proofs.slack.Walks.{back, same_long, bound_over}
use Rattle.sd_bound.proofs.slack.Matching.{shape_of, things_of}
use Rattle.sd_bound.proofs.slack.Numbers.{greatest_up_falls, silence_falls}
use Rattle.sd_bound.proofs.slack.Sums.{halves_fall, root_halves_fall}

rates_at : (xs ys : List Device) → AllZip IsTighterDevice xs ys → (d : ℕ)
    → AreTighterRates (at_place xs d no_rates (λ device. device.rates)) (at_place ys d no_rates (λ device. device.rates))
rates_at [] [] zip d = record { ppm = omega arith; grain = omega arith }
rates_at [] (y ∷ ys) zip d = absurd zip
rates_at (x ∷ xs) [] zip d = absurd zip
rates_at (x ∷ xs) (y ∷ ys) zip zero = zip.0.rates
rates_at (x ∷ xs) (y ∷ ys) zip (suc d) = rates_at xs ys zip.1 d

-- Sums that fall with their parts

settled : (a b c d e t u v w x : ℕ) → a ≤ t → b ≤ u → c ≤ v → d ≤ w → e ≤ x
    → max (a + b + 6 * (d + c)) (e + c + d) ≤ max (t + u + 6 * (w + v)) (x + v + w)
settled a b c d e t u v w x p q r s o = omega (arith, p, q, r, s, o)

sum_of_four : (base a b c x y z : ℕ) → a ≤ x → b ≤ y → c ≤ z → base + a + b + c ≤ base + x + y + z
sum_of_four base a b c x y z p q r = omega (arith, p, q, r)

sums_le : (a b c d v w x y z u : ℕ) → v ≡ a + b + c + d → u ≡ w + x + y + z → w ≤ a → x ≤ b → y ≤ c → z ≤ d → u ≤ v
sums_le a b c d v w x y z u was is p q r s = omega (arith, was, is, p, q, r, s)

module _ (before after : Network) (tighter : IsTighter before after) where
  rates : (d : ℕ) → AreTighterRates (rates_of before d) (rates_of after d)
  rates d = rates_at before.devices after.devices tighter.devices d

  module _ (plan : Plan) where
    settling_falls : settling after plan ≤ settling before plan
    settling_falls =
        settled (greatest_up after plan.wait_first) (greatest_up after plan.wait_second) after.params.tick (silence after) (greatest_up after plan.wait)
        (greatest_up before plan.wait_first) (greatest_up before plan.wait_second) before.params.tick (silence before) (greatest_up before plan.wait)
        (greatest_up_falls before after tighter plan.wait_first) (greatest_up_falls before after tighter plan.wait_second) tighter.tick
        (silence_falls before after tighter) (greatest_up_falls before after tighter plan.wait)

    quiet_falls : (n : ℕ) → quiet after plan n ≤ quiet before plan n
    quiet_falls n =
        let product : 2 * silence after * (n + 1) ≤ 2 * silence before * (n + 1) =
        mul-le (2 * silence after) (n + 1) (2 * silence before) (n + 1) (double (silence after) (silence before) (silence_falls before after tighter))
        (omega arith) in
        sum (settling after plan) (2 * silence after * (n + 1)) (settling before plan) (2 * silence before * (n + 1)) settling_falls product
      where
        double : (a b : ℕ) → a ≤ b → 2 * a ≤ 2 * b
        double a b le = omega (arith, le)

        sum : (a b c d : ℕ) → a ≤ c → b ≤ d → a + b ≤ c + d
        sum a b c d first second = omega (arith, first, second)

    module _ (budget : Budget) where
      held : (d : ℕ) → ageing (rates_of after d) budget.hold ≤ ageing (rates_of before d) budget.hold
      held d = ageing_falls (rates_of before d) (rates_of after d) (rates d) budget.hold budget.hold (omega arith)

      source_falls : source after plan budget ≤ source before plan budget
      source_falls =
          sum_of_four budget.base (root_halves after plan) (ageing (rates_of after plan.root) budget.hold)
          (ageing (rates_of after plan.backup_root) budget.hold)
          (root_halves before plan) (ageing (rates_of before plan.root) budget.hold) (ageing (rates_of before plan.backup_root) budget.hold)
          (root_halves_fall before after tighter plan) (held plan.root) (held plan.backup_root)

      module _ (f g : DomainId) (same : IsSameDomain before f after g) (d : ℕ) where
        abbrev shape : HasShape before after
        shape = shape_of before after tighter

        abbrev things : HasThings before f after g
        things = things_of before after tighter f g same

        -- no sum of halves is greater
        far_falls : (m n : ℕ) → IsGreatestOf (IsWalk before plan f d) (halves before d) m → IsGreatestOf (IsWalk after plan g d) (halves after d) n → n ≤ m
        far_falls m n was is =
            let less : halves after d is.hops ≤ halves before d is.hops = halves_fall before after tighter d is.hops in
            let most : halves before d is.hops ≤ m = was.greatest is.hops (back before f after g shape things plan d is.hops is.has) in
            omega (arith, less, most, is.reached)

        -- no bound is above one before
        pub at_most : (w v : ℕ) → IsWorst before plan budget f d w → IsWorst after plan budget g d v → v ≤ w
        at_most w v was is =
            let long : is.long ≡ was.long = same_long before f after g shape things plan d was.long is.long was.is_long is.is_long in
            let shorter : quiet after plan is.long ≤ quiet before plan was.long =
            subst (λ (n : ℕ). quiet after plan n ≤ quiet before plan was.long) (sym long) (quiet_falls was.long) in
            let younger : is.oldest ≤ was.oldest =
            younger_falls (rates_of before d) (rates_of after d) (rates d) (quiet before plan was.long) (quiet after plan is.long) was.oldest is.oldest shorter
            was.is_oldest is.is_oldest in
            sums_le (source before plan budget) (root_halves before plan) was.far (ageing (rates_of before d) was.oldest) w (source after plan budget)
            (root_halves after plan) is.far (ageing (rates_of after d) is.oldest) v was.sum is.sum source_falls (root_halves_fall before after tighter plan)
            (far_falls was.far is.far was.is_far is.is_far) (ageing_falls (rates_of before d) (rates_of after d) (rates d) was.oldest is.oldest younger)

        -- and there is one
        pub has_bound : (w : ℕ) → IsWorst before plan budget f d w → (v : ℕ) × IsWorst after plan budget g d v
        has_bound w was =
            bound_over before f after g shape things plan d budget w was
            (oldest_after (rates_of before d) (rates_of after d) (rates d) (quiet before plan was.long) (quiet after plan was.long) was.oldest
            (quiet_falls was.long) was.is_oldest)

        -- nor has a device one that had none
        pub had_bound : IsNetwork before → d < length before.devices → (v : ℕ) → IsWorst after plan budget g d v → (w : ℕ) × IsWorst before plan budget f d w
        had_bound law within v is =
            bound_over after g before f (shape_back before after shape) (things_back before f after g things) plan d budget v is
            (some_oldest (rates_of before d) (quiet before plan is.long) (rates_law before d law within))

-- the theorem
pub no_bound_rises : (before after : Network) → NoBoundRises before after
no_bound_rises before after tighter plan budget f g same d w was =
    let (v, is) = has_bound before after tighter plan budget f g same d w was in
    (v, is, at_most before after tighter plan budget f g same d w v was is)

-- and so of the numbers that the drill lists
pub no_listed_bound_rises : (before after : Network) → NoListedBoundRises before after
no_listed_bound_rises before after tighter plan budget f g same xs ys was is d within w at =
    by (bound_at ys d) refl
  where
    worst : IsWorst before plan budget f d w
    worst = subst (λ (o : Option ℕ). IsListed before plan budget f d o) at (was.listed d within)

    inside : d < length after.devices
    inside = omega (arith, within, (shape_of before after tighter).devices)

    listed : (o : Option ℕ) → bound_at ys d ≡ o → IsListed after plan budget g d o
    listed o here = subst (λ (p : Option ℕ). IsListed after plan budget g d p) here (is.listed d inside)

    by : (o : Option ℕ) → bound_at ys d ≡ o → (v : ℕ) × (bound_at ys d ≡ Some v) × (v ≤ w)
    by None none =
        let (v, some) = has_bound before after tighter plan budget f g same d w worst in
        absurd (listed None none v some)
    by (Some v) some = (v, some, at_most before after tighter plan budget f g same d w v worst (listed (Some v) some))

-- less slack gives no device a bound that had none
pub no_bound_appears : (before after : Network) → NoBoundAppears before after
no_bound_appears before after tighter law plan budget f g same d within v is =
    had_bound before after tighter plan budget f g same d law within v is

-- There are bounds of each domain under which hops lead in no circle, and only one list of them.
use Rattle.std.specs.Prelude.{◌≡◌, ℕ, zero, suc, ◌+◌, ◌-◌, ◌*◌, ◌/◌, ◌<◌, ◌≤◌, Bool, true, false, List, [], ◌∷◌, ◌++◌, length, Option, Some, None}
use Rattle.std.proofs.Common.{arith, refl, ap, ◌∙◌, subst}
use Rattle.std.proofs.lemmas.List.{length_push}
use Rattle.sd_num.specs.declared.Rates.{Rates}
use Rattle.sd_plan.specs.topo.Network.{Network, rates_of}
use Rattle.sd_plan.specs.topo.Limits.{IsNetwork}
use Rattle.sd_plan.proofs.topo.Laws.{rates_law}
use Rattle.sd_plan.specs.declared.domain.DomainId.{DomainId}
use Rattle.sd_plan.specs.declared.Hop.{Hop}
use Rattle.sd_plan.specs.declared.Plan.{Plan}
use Rattle.sd_plan.specs.Plans.{Fits}
use Rattle.sd_plan.specs.Structure.{structure_breach}
use Rattle.sd_plan.proofs.Rules.{keeps_rules}
use Rattle.sd_checker.specs.check_loop.Loops.{HasNoCycle}
use Rattle.sd_drill.specs.ages.Ages.{IsOldest, ageing}
use Rattle.sd_drill.proofs.ages.Division.{oldest_is}
use Rattle.sd_drill.specs.recovery.Recoveries.{IsRecovery}
use Rattle.sd_drill.specs.recovery.Walks.{IsGreatestOf, halves, IsWalk}
use Rattle.sd_drill.specs.declared.recovery.reach.Reach.{Reach}
use Rattle.sd_drill.specs.declared.recovery.Recovery.{Recovery}
use Rattle.sd_drill.proofs.recovery.Existing.{has_recovery}
use Rattle.sd_drill.specs.Bounds.{AreBounds, bound_at}
use Rattle.sd_drill.specs.Drill.{IsWorst, IsListed, source, root_halves, quiet}
use Rattle.sd_drill.specs.declared.Budget.{Budget}
use Rattle.sd_drill.proofs.Listing.{none_unfed, none_overlong, far_enough, listed_more}

-- the greatest is one
one_greatest : (Has : List Hop → Type 0) (m : List Hop → ℕ) (g h : ℕ) → IsGreatestOf Has m g → IsGreatestOf Has m h → g ≡ h
one_greatest Has m g h a b =
    let up = b.greatest a.hops a.has in
    let down = a.greatest b.hops b.has in
    omega (arith, up, down, a.reached, b.reached)

one_oldest : (rates : Rates) (s x y : ℕ) → IsOldest rates s x → IsOldest rates s y → x ≡ y
one_oldest rates s x y a b =
    let up = b.greatest x a.within in
    let down = a.greatest y b.within in
    omega (arith, up, down)

module _ (net : Network) (plan : Plan) (budget : Budget) (f : DomainId) where
  one_worst : (d w x : ℕ) → IsWorst net plan budget f d w → IsWorst net plan budget f d x → w ≡ x
  one_worst d w x a b =
      let far : a.far ≡ b.far = one_greatest (IsWalk net plan f d) (halves net d) a.far b.far a.is_far b.is_far in
      let long : a.long ≡ b.long = one_greatest (IsWalk net plan f d) length a.long b.long a.is_long b.is_long in
      let old : a.oldest ≡ b.oldest =
      one_oldest (rates_of net d) (quiet net plan b.long) a.oldest b.oldest
      (subst (λ (n : ℕ). IsOldest (rates_of net d) (quiet net plan n) a.oldest) long a.is_oldest) b.is_oldest in
      let aged : ageing (rates_of net d) a.oldest ≡ ageing (rates_of net d) b.oldest = ap (ageing (rates_of net d)) old in
      let first = a.sum in
      let second = b.sum in
      omega (arith, far, aged, first, second)

  one_listed : (d : ℕ) (o p : Option ℕ) → IsListed net plan budget f d o → IsListed net plan budget f d p → o ≡ p
  one_listed d None None a b = refl
  one_listed d None (Some x) a b = absurd (a x b)
  one_listed d (Some w) None a b = absurd (b w a)
  one_listed d (Some w) (Some x) a b = ap (λ (n : ℕ). Some n) (one_worst d w x a b)

  -- a device's bound is one
  pub one_bound : (xs ys : List (Option ℕ)) → AreBounds net plan budget f xs → AreBounds net plan budget f ys → (d : ℕ) → d < length net.devices
      → bound_at xs d ≡ bound_at ys d
  one_bound xs ys a b d within = one_listed d (bound_at xs d) (bound_at ys d) (a.listed d within) (b.listed d within)

  module _ (law : IsNetwork net) (fits : Fits net plan) (structured : structure_breach net plan ≡ None) (acyclic : HasNoCycle net plan f) where
    abbrev HasListed : ℕ → Type 0
    HasListed d = (o : Option ℕ) × IsListed net plan budget f d o

    abbrev age : ℕ → ℕ → ℕ
    age d n = (1000000 * (quiet net plan n + (rates_of net d).grain + 1) - 1) / (1000000 - (rates_of net d).ppm)

    listed_by : (d : ℕ) → d < length net.devices → (r : Recovery) → IsRecovery net plan f d r → HasListed d
    listed_by d within r is = by r.fed r.reach refl refl
      where
        by : (fed : Bool) (reach : Option Reach) → r.fed ≡ fed → r.reach ≡ reach → HasListed d
        by false reach unfed reached = (None, none_unfed net plan f d budget r is unfed)
        by true None fed none = (None, none_overlong net plan f d budget r.reach none is.reach)
        by true (Some reach) fed some =
            let walks = far_enough net plan f d r reach is some in
            let old : IsOldest (rates_of net d) (quiet net plan reach.long) (age d reach.long) =
            oldest_is (rates_of net d) (quiet net plan reach.long) (rates_law net d law within) in (
              Some (source net plan budget + root_halves net plan + reach.far + ageing (rates_of net d) (age d reach.long)),
              record {
                fed = is.fed.0 fed;
                far = reach.far;
                is_far = walks.far;
                long = reach.long;
                is_long = walks.long;
                short_enough = walks.within;
                oldest = age d reach.long;
                is_oldest = old;
                sum = refl;
              },
            )

    listed_at : (d : ℕ) → d < length net.devices → HasListed d
    listed_at d within = let found = has_recovery net plan f law fits (keeps_rules net plan structured) acyclic d within in listed_by d within found.0 found.1

    record Come (n : ℕ) : Type 0 where
      bounds : List (Option ℕ)
      size : length bounds ≡ n
      each : (k : ℕ) → k < n → IsListed net plan budget f k (bound_at bounds k)

    come : (n : ℕ) → n ≤ length net.devices → Come n
    come zero few = record { bounds = []; size = refl; each = λ k below. absurd (omega (arith, below)) }
    come (suc n) few =
        let before = come n (omega (arith, few)) in
        let next = listed_at n (omega (arith, few)) in
        let more = listed_more (IsListed net plan budget f) before.bounds next.0 n before.size before.each next.1 in
        record {
          bounds = before.bounds ++ next.0 ∷ [];
          size = length_push before.bounds next.0 ∙ omega (arith, before.size);
          each = λ k below. more k (omega (arith, below));
        }

    pub has_bounds : (bounds : List (Option ℕ)) × AreBounds net plan budget f bounds
    has_bounds = let all = come (length net.devices) (omega arith) in (all.bounds, record { each = all.size; listed = all.each })

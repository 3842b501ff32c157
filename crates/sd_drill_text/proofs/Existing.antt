-- There are all three numbers of each device under each domain of an accepted plan, where it has a bound.
use Rattle.std.specs.Prelude.{◌≡◌, ℕ, zero, suc, ◌+◌, ◌-◌, ◌*◌, ◌/◌, ◌<◌, List, [], ◌∷◌, ◌++◌, length, Option, Some, None}
use Rattle.std.proofs.Common.{arith, get_or, inl, inr, refl, subst, sym, ◌∙◌}
use Rattle.std.proofs.lemmas.Bool.{cases_lt}
use Rattle.std.proofs.lemmas.List.{get_or_append_left, get_or_push, length_push}
use Rattle.sd_plan.specs.topo.Network.{Network, rates_of}
use Rattle.sd_plan.specs.topo.Limits.{IsNetwork}
use Rattle.sd_plan.proofs.topo.Laws.{rates_law}
use Rattle.sd_plan.specs.declared.domain.DomainId.{DomainId}
use Rattle.sd_plan.specs.Walks.{walk}
use Rattle.sd_plan.specs.declared.Plan.{Plan}
use Rattle.sd_drill.specs.ages.Ages.{IsOldest, ageing}
use Rattle.sd_drill.specs.recovery.Walks.{halves}
use Rattle.sd_drill.specs.Bounds.{AreBounds, bound_at}
use Rattle.sd_drill.specs.Calm.{AreCalm, IsCalm, lag}
use Rattle.sd_drill.specs.Drill.{IsListed, quiet, root_halves, source}
use Rattle.sd_drill.specs.Tight.{AreTight, IsTightListed, longest_silence}
use Rattle.sd_drill.specs.declared.Budget.{Budget}
use Rattle.sd_drill.proofs.Shared.{bound_is}
use Rattle.sd_drill.proofs.ages.Division.{oldest_is}

-- a list that has at each place what holds there
record ListOf {A : Type 0} (default : A) (P : ℕ → A → Type 0) (n : ℕ) : Type 0 where
  items : List A
  size : length items ≡ n
  each : (k : ℕ) → k < n → P k (get_or items k default)

list_of : {A : Type 0} (default : A) (P : ℕ → A → Type 0) (n : ℕ) → ((k : ℕ) → k < n → (x : A) × P k x) → ListOf default P n
list_of default P zero has = record { items = []; size = refl; each = λ k below. absurd (omega (arith, below)) }
list_of default P (suc n) has =
    let before = list_of default P n (λ k below. has k (omega (arith, below))) in
    let next = has n (omega arith) in
    record {
      items = before.items ++ next.0 ∷ [];
      size = length_push before.items next.0 ∙ omega (arith, before.size);
      each = λ k below. elim (cases_lt k n) [
        | inl less ↦ subst (P k) (sym (get_or_append_left before.items (next.0 ∷ []) default k (omega (arith, less, before.size)))) (before.each k less)
        | inr more ↦ (let last : n ≡ k = omega (arith, below, more) in
            subst (P k) (sym (get_or_push before.items next.0 default k (before.size ∙ last))) (subst (λ (m : ℕ). P m next.0) last next.1))
      ];
    }

module _ (net : Network) (plan : Plan) (budget : Budget) (law : IsNetwork net) where
  abbrev age : ℕ → ℕ → ℕ
  age d s = (1000000 * (s + (rates_of net d).grain + 1) - 1) / (1000000 - (rates_of net d).ppm)

  aged : (d s : ℕ) → d < length net.devices → IsOldest (rates_of net d) s (age d s)
  aged d s within = oldest_is (rates_of net d) s (rates_law net d law within)

  -- a device that has a bound has a tight number, and no other has
  tight_for : (f : DomainId) (d : ℕ) → d < length net.devices → (o : Option ℕ) → IsListed net plan budget f d o
      → (n : Option ℕ) × IsTightListed net plan budget f d n
  tight_for f d within None none = (
    None,
    λ w is. none (source net plan budget + root_halves net plan + is.far + ageing (rates_of net d) (age d (quiet net plan is.long))) (record {
      fed = is.fed;
      far = is.far;
      is_far = is.is_far;
      long = is.long;
      is_long = is.is_long;
      short_enough = is.short_enough;
      oldest = age d (quiet net plan is.long);
      is_oldest = aged d (quiet net plan is.long) within;
      sum = refl;
    }),
  )
  tight_for f d within (Some w) is = (
    Some (source net plan budget + is.far + ageing (rates_of net d) (age d (longest_silence net plan))),
    record {
      fed = is.fed;
      far = is.far;
      is_far = is.is_far;
      long = is.long;
      is_long = is.is_long;
      short_enough = is.short_enough;
      oldest = age d (longest_silence net plan);
      is_oldest = aged d (longest_silence net plan) within;
      sum = refl;
    },
  )

  pub have_tight : (f : DomainId) (worst : List (Option ℕ)) → AreBounds net plan budget f worst → (numbers : List (Option ℕ)) × AreTight net plan budget f numbers
  have_tight f worst are =
      let all = list_of None (IsTightListed net plan budget f) (length net.devices) (λ d within. tight_for f d within (bound_at worst d) (are.listed d within)) in (
        all.items,
        record {
          each = all.size;
          listed = λ d within.
              subst (IsTightListed net plan budget f d) (sym (bound_is all.items d (omega (arith, within, all.size)))) (all.each d within);
        },
      )

  pub have_calm : (numbers : List ℕ) × AreCalm net plan budget numbers
  have_calm =
      let all = list_of 0 (IsCalm net plan budget) (length net.devices) (λ d within. (
        budget.base + ageing (rates_of net plan.root) budget.hold + halves net d (walk net plan d) + ageing (rates_of net d) (age d (lag net)),
        record { oldest = age d (lag net); is_oldest = aged d (lag net) within; sum = refl },
      )) in
      (all.items, record { each = all.size; listed = all.each })

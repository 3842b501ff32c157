-- What is listed for a device, by how it recovers.
use Rattle.std.specs.Prelude.{◌≡◌, ℕ, ◌+◌, ◌<◌, ◌≤◌, false, List, [], ◌∷◌, ◌++◌, length, Option, Some, None}
use Rattle.std.proofs.Common.{arith, get_or, sym, ◌∙◌, subst, inl, inr}
use Rattle.std.proofs.lemmas.Bool.{both_ways, cases_lt}
use Rattle.std.proofs.lemmas.List.{get_or_append_left, get_or_push, length_push}
use Rattle.sd_plan.specs.topo.Network.{Network}
use Rattle.sd_plan.specs.declared.domain.DomainId.{DomainId}
use Rattle.sd_plan.specs.declared.Plan.{Plan}
use Rattle.sd_drill.specs.recovery.Reaches.{ReachesFrom, IsReachOf}
use Rattle.sd_drill.specs.recovery.Recoveries.{IsRecovery}
use Rattle.sd_drill.specs.recovery.Walks.{IsWalk}
use Rattle.sd_drill.specs.declared.recovery.reach.Reach.{Reach}
use Rattle.sd_drill.specs.declared.recovery.Recovery.{Recovery}
use Rattle.sd_drill.specs.Bounds.{bound_at}
use Rattle.sd_drill.specs.Drill.{IsWorst}
use Rattle.sd_drill.specs.declared.Budget.{Budget}
use Rattle.sd_drill.proofs.Shared.{bound_is}

module _ (net : Network) (plan : Plan) (f : DomainId) (d : ℕ) where
  -- what is not fed has no bound
  pub none_unfed : (budget : Budget) (r : Recovery) → IsRecovery net plan f d r → r.fed ≡ false → (w : ℕ) → IsWorst net plan budget f d w → ⊥
  none_unfed budget r is unfed w worst = absurd (both_ways r.fed unfed (is.fed.1 worst.fed))

  -- nor what has a walk that is too long
  pub none_overlong : (budget : Budget) (o : Option Reach) → o ≡ None → ReachesFrom net plan f d o → (w : ℕ) → IsWorst net plan budget f d w → ⊥
  none_overlong budget (Some reach) none is w worst = cc
  none_overlong budget None none is w worst =
      let most : length is.hops ≤ worst.long = worst.is_long.greatest is.hops is.has in
      let few : worst.long ≤ net.params.depth + 1 = worst.short_enough in
      let more : net.params.depth + 1 < length is.hops = is.more in
      absurd (omega (arith, most, few, more))

  reach_is : (o : Option Reach) (reach : Reach) → o ≡ Some reach → ReachesFrom net plan f d o → IsReachOf net (IsWalk net plan f d) d reach
  reach_is o reach some is = subst (λ (found : Option Reach). ReachesFrom net plan f d found) some is

  pub far_enough : (r : Recovery) (reach : Reach) → IsRecovery net plan f d r → r.reach ≡ Some reach → IsReachOf net (IsWalk net plan f d) d reach
  far_enough r reach is some = reach_is r.reach reach some is.reach

-- one more element of a list, which has what each has at its place
pub placed_more : {A : Type 0} (default : A) (P : ℕ → A → Type 0) (xs : List A) (x : A) (n : ℕ) → length xs ≡ n → ((k : ℕ) → k < n → P k (get_or xs k default))
    → P n x → (k : ℕ) → k < n + 1 → P k (get_or (xs ++ x ∷ []) k default)
placed_more default P xs x n size each new k below =
    elim (cases_lt k n) [
      | inl before ↦ (let there : k < length xs = omega (arith, size, before) in
          subst (P k) (sym (get_or_append_left xs (x ∷ []) default k there)) (each k before))
      | inr after ↦ (let last : n ≡ k = omega (arith, below, after) in
          subst (P k) (sym (get_or_push xs x default k (size ∙ last))) (subst (λ (m : ℕ). P m x) last new))
    ]

-- one more bound
pub listed_more : (P : ℕ → Option ℕ → Type 0) (xs : List (Option ℕ)) (x : Option ℕ) (n : ℕ) → length xs ≡ n → ((k : ℕ) → k < n → P k (bound_at xs k)) → P n x
    → (k : ℕ) → k < n + 1 → P k (bound_at (xs ++ x ∷ []) k)
listed_more P xs x n size each new k below =
    let whole : k < length (xs ++ x ∷ []) = omega (arith, size, below, length_push xs x) in
    subst (P k) (sym (bound_is (xs ++ x ∷ []) k whole))
    (placed_more None P xs x n size (λ j before. subst (P j) (bound_is xs j (omega (arith, size, before))) (each j before)) new k below)

-- Up a walk along a trace: where each device of the walk but the root took the round from its parent above, and none of them began it, the root emitted it, at
-- most this many greatest delays before as the walk has hops.
use Rattle.std.specs.Prelude.{◌≡◌, ℕ, zero, suc, ◌+◌, ◌*◌, ◌≤◌, Bool, true, false, ◌||◌, List, [], ◌∷◌, map, nat_eq, Option, Some, None, refl}
use Rattle.std.proofs.Common.{arith, sym, subst}
use Rattle.std.proofs.lemmas.Bool.{or_left, or_right, eqb-true, eq-eqb}
use Rattle.sd_num.specs.Lists.{has}
use Rattle.sd_plan.specs.topo.Network.{greatest_delay}
use Rattle.sd_plan.specs.declared.Plan.{Plan}
use Rattle.sd_plan.specs.declared.Hop as declared
use Rattle.sd_plan.specs.Plans.{is_root, primary_of}
use Rattle.sd_plan.specs.Walks.{hops, end_of}
use Rattle.sd_device.specs.declared.msg.Stamp.{Stamp}
use Rattle.sd_history.specs.World.{Setting}
use Rattle.sd_safety.proofs.invariant.Sides.{not_both}
use Rattle.sd_safety.specs.messages.Moments.{behind, Moment, upto, when, IsIn, IsBefore}
use Rattle.sd_safety.specs.messages.Traces.{Hop, Trace, begins, goes_on}
use Rattle.sd_safety.proofs.messages.Tails.{tail_trans}
use Rattle.sd_safety.proofs.messages.Overlap.{hop_time}
use Rattle.sd_safety.specs.frame.Descents.{TakesFromAbove}
use Rattle.sd_safety.proofs.frame.Climbing.{further}
use Rattle.sd_safety.proofs.messages.Flowing.{tail_rest}

longer : (q at n d : ℕ) → q ≤ at + d → q ≤ at + suc n * d
longer q at n d le = let more : suc n * d ≡ n * d + d = omega (arith) in omega (arith, le, more)

module _ (setting : Setting) (plan : Plan) (stamp : Stamp) (epoch : ℕ) (p : Moment) (on : ℕ → Bool)
    (down : (y : ℕ) → on y ≡ true → is_root plan y ≡ false → (q : Moment) → IsIn q (upto p) → TakesFromAbove setting plan stamp epoch q y)
    (relays_none : (q : Moment) → IsIn q (upto p) → (from : Moment) (x : ℕ) → Hop setting stamp epoch from x q plan.root
    → ⊥) (first : Moment) (source : ℕ) where
  abbrev parents : List declared.Hop → List ℕ
  parents hs = map (λ (h : declared.Hop). h.parent) hs

  -- the root emitted the round, so long before at most
  pub record FromRoot (q : Moment) (n : ℕ) : Type 0 where
    pub source_is : source ≡ plan.root
    pub time : when q ≤ when first + n * greatest_delay setting.net

  pub at_root : (m : ℕ) (from : Moment) (z : ℕ) → Trace setting stamp epoch first source m from z → is_root plan z ≡ true → IsIn from (upto p)
      → (source ≡ plan.root) × (when first ≡ when from)
  at_root zero from z (begins message emits carries epoch_is) root here = (sym (eqb-true plan.root source root), refl)
  at_root (suc m) from z (goes_on {from = before_} {x = x} trace hop) root here =
      absurd (relays_none from here before_ x (subst (λ v. Hop setting stamp epoch before_ x from v) (sym (eqb-true plan.root z root)) hop))

  from_by : (n : ℕ) (q : Moment) (y m : ℕ) → Trace setting stamp epoch first source m q y → IsIn q (upto p) → on y ≡ true → is_root plan y ≡ false
      → (o : Option declared.Hop) → primary_of plan y ≡ o
      → ((z : ℕ) → has
      (parents (elim o as (λ (k : Option declared.Hop). List declared.Hop)
      [ None ↦ [] | Some hop ↦ hop ∷ (elim (is_root plan hop.parent) [ true ↦ [] | false ↦ hops (is_root plan) plan n hop.parent ]) ])) z ≡ true
      → on z ≡ true)
      → is_root plan
      (end_of y (elim o as (λ (k : Option declared.Hop). List declared.Hop)
      [ None ↦ [] | Some hop ↦ hop ∷ (elim (is_root plan hop.parent) [ true ↦ [] | false ↦ hops (is_root plan) plan n hop.parent ]) ])) ≡ true
      → ((from : Moment) (z k : ℕ) → Trace setting stamp epoch first source k from z → IsIn from (upto p) → on z ≡ true → is_root plan z ≡ false
      → ((v : ℕ) → has (parents (hops (is_root plan) plan n z)) v ≡ true → on v ≡ true) → is_root plan (end_of z (hops (is_root plan) plan n z)) ≡ true
      → FromRoot from n)
      → FromRoot q (suc n)
  from_by n q y m trace here on_ low None is within ends rest = absurd (not_both (is_root plan y) ends low)
  from_by n q y zero (begins message emits carries epoch_is) here on_ low (Some h) is within ends rest =
      absurd ((down y on_ low first here).begins_none message emits carries epoch_is)
  from_by n q y (suc m) (goes_on {from = from} {x = z} trace hop) here on_ low (Some h) is within ends rest =
      let parent : h.parent ≡ z = (down y on_ low q here).takes z from hop h is in
      let before : IsBefore from p = tail_trans hop.before (tail_rest here) in
      let up : Trace setting stamp epoch first source m from h.parent = subst (λ v. Trace setting stamp epoch first source m from v) (sym parent) trace in
      let on_parent : on h.parent ≡ true = within h.parent (or_left (nat_eq h.parent h.parent) _ (eq-eqb h.parent h.parent refl)) in
      by (is_root plan h.parent) refl (hop_time setting stamp epoch from q z y hop) up (behind before) on_parent within ends
    where
      by : (b : Bool) → is_root plan h.parent ≡ b → when q ≤ when from + greatest_delay setting.net → Trace setting stamp epoch first source m from h.parent
          → IsIn from (upto p) → on h.parent ≡ true
          → ((v : ℕ) → (nat_eq v h.parent
          || has (parents (elim b as (λ (k : Bool). List declared.Hop) [ true ↦ [] | false ↦ hops (is_root plan) plan n h.parent ])) v) ≡ true
          → on v ≡ true)
          → is_root plan (end_of h.parent (elim b as (λ (k : Bool). List declared.Hop) [ true ↦ [] | false ↦ hops (is_root plan) plan n h.parent ])) ≡ true
          → FromRoot q (suc n)
      by true root time up inside on_parent within' ends' =
          let top = at_root m from h.parent up root inside in
          record {
            source_is = top.0;
            time = longer (when q) (when first) n (greatest_delay setting.net) (subst (λ t. when q ≤ t + greatest_delay setting.net) (sym top.1) time);
          }
      by false root time up inside on_parent within' ends' =
          let f : FromRoot from n =
          rest from h.parent m up inside on_parent root
          (λ v a. within' v (or_right (nat_eq v h.parent) (has (parents (hops (is_root plan) plan n h.parent)) v) a)) ends' in
          record { source_is = f.source_is; time = further (when q) (when from) (when first) n (greatest_delay setting.net) f.time time }

  pub from_root : (n : ℕ) (q : Moment) (y m : ℕ) → Trace setting stamp epoch first source m q y → IsIn q (upto p) → on y ≡ true → is_root plan y ≡ false
      → ((z : ℕ) → has (parents (hops (is_root plan) plan n y)) z ≡ true → on z ≡ true)
      → is_root plan (end_of y (hops (is_root plan) plan n y)) ≡ true → FromRoot q n
  from_root zero q y m trace here on_ low within ends = absurd (not_both (is_root plan y) ends low)
  from_root (suc n) q y m trace here on_ low within ends =
      from_by n q y m trace here on_ low (primary_of plan y) refl within ends
      (λ from z k up inside on_z low_z in_ ends_z. from_root n from z k up inside on_z low_z in_ ends_z)

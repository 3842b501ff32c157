-- The cut walk of a device behind the backup root: it ends there, and each of its hops is the primary one of an ordinary member, whose own cut path is
-- missed where that of the device is.
use Rattle.std.specs.Prelude.{◌≡◌, ℕ, suc, ◌+◌, ◌<◌, ◌≤◌, Bool, true, false, ◌&&◌, ◌||◌, List, [], ◌∷◌, length, map, nat_eq, Some, IfSome, refl, if◌then◌else◌}
use Rattle.std.proofs.Common.{arith, ◌∙◌, ap, sym, subst}
use Rattle.std.proofs.lemmas.Bool.{and_parts, or_parts, or_from, eqb-true, eq-eqb}
use Rattle.sd_num.specs.Lists.{has}
use Rattle.sd_plan.specs.topo.Network.{Network, joins}
use Rattle.sd_plan.specs.declared.topo.Thing.{Thing}
use Rattle.sd_plan.specs.declared.topo.Thing.TheVariants as thing
use Rattle.sd_plan.specs.declared.Hop.{Hop}
use Rattle.sd_plan.specs.declared.Plan.{Plan}
use Rattle.sd_plan.specs.Plans.{IsHop, is_member, is_present, is_root, is_backup_root, primary_of}
use Rattle.sd_plan.specs.Walks.{hops, walk, epath, things_of, end_of, ends_walks, on_walk}
use Rattle.sd_plan.specs.Structure.{hop_is_right}
use Rattle.sd_plan.proofs.CutOff.{cut_off, epath_is}
use Rattle.sd_plan.proofs.Forest.{IsStep, IsForest, forest_of}
use Rattle.sd_plan.proofs.Rules.{hops_within}
use Rattle.sd_safety.specs.invariant.Eras.{is_among, touches}
use Rattle.sd_safety.proofs.invariant.Facts.{IsSound}
use Rattle.sd_safety.proofs.invariant.Sides.{implied, not_both}
use Rattle.sd_safety.proofs.silences.WalkWays.{Walks, over, walks}

-- a hop of a cut walk that nothing failed of
pub record IsCutClear (net : Network) (plan : Plan) (failed : List Thing) (y : ℕ) (hop : Hop) : Type 0 where
  pub primary : primary_of plan y ≡ Some hop
  pub other : is_root plan y ≡ false
  pub ordinary : is_backup_root plan y ≡ false
  pub known : y < length net.devices
  pub member : is_member plan y ≡ true
  pub self : is_among failed (thing.Device y) ≡ false
  pub cut_path : touches failed (epath net plan y) ≡ false
  pub link : is_among failed (thing.Link hop.link) ≡ false
  pub parent : is_among failed (thing.Device hop.parent) ≡ false
  pub within : IsHop net hop
  pub present : is_present plan hop.link ≡ true

pub first_hop : (a hop : Hop) (xs hs : List Hop) → ◌≡◌ {A = List Hop} (a ∷ xs) (hop ∷ hs) → (a ≡ hop) × (xs ≡ hs)
first_hop a hop xs hs same = (ap (λ (l : List Hop). elim l [ [] ↦ a | z ∷ zs ↦ z ]) same, ap (λ (l : List Hop). elim l [ [] ↦ xs | z ∷ zs ↦ zs ]) same)

-- the cut walk leads to the backup root, and is shorter than the walk
pub record CutWalk (net : Network) (plan : Plan) (failed : List Thing) (y : ℕ) (hs : List Hop) : Type 0 where
  pub clear : Walks plan (IsCutClear net plan failed) y (cut_off plan hs)
  pub ends : end_of y (cut_off plan hs) ≡ plan.backup_root
  pub short : length (cut_off plan hs) + 1 ≤ length hs

module _ (net : Network) (plan : Plan) (failed : List Thing) (fine : IsSound net plan) where
  forest : IsForest net plan
  forest = forest_of net plan fine.fits fine.guarded.structure

  not_root_by : (y : ℕ) (hop : Hop) (hs : List Hop) (b : Bool) → (if b then [] else hops (is_root plan) plan net.params.depth y) ≡ hop ∷ hs → b ≡ false
  not_root_by y hop hs true is = cc
  not_root_by y hop hs false is = refl

  none_by : (y : ℕ) → is_root plan y ≡ true → walk net plan y ≡ []
  none_by y is = ap (λ b. if b then [] else hops (is_root plan) plan net.params.depth y) is

  -- the first hop of a walk
  record Steps_ (y : ℕ) (hop : Hop) (hs : List Hop) : Type 0 where
    other : is_root plan y ≡ false
    primary : primary_of plan y ≡ Some hop
    rest : walk net plan hop.parent ≡ hs
    member : is_member plan hop.parent ≡ true
    known : hop.parent < length net.devices

  steps_at : (y : ℕ) (hop : Hop) (hs : List Hop) → walk net plan y ≡ hop ∷ hs → y < length net.devices → is_member plan y ≡ true → Steps_ y hop hs
  steps_at y hop hs is known member =
      let other : is_root plan y ≡ false = not_root_by y hop hs (is_root plan y) is in
      let first = forest.hop y known member other in
      let step : IsStep net plan y first.0 = forest.up y first.0 known first.1 in
      let same = first_hop first.0 hop (walk net plan first.0.parent) hs (sym step.walk ∙ is) in
      record {
        other = other;
        primary = first.1 ∙ ap Some same.0;
        rest = ap (λ (k : Hop). walk net plan k.parent) (sym same.0) ∙ same.1;
        member = subst (λ (k : Hop). is_member plan k.parent ≡ true) same.0 step.above;
        known = subst (λ (k : Hop). k.parent < length net.devices) same.0 step.within;
      }

  present_of : (y : ℕ) (hop : Hop) → y < length net.devices → primary_of plan y ≡ Some hop → is_present plan hop.link ≡ true
  present_of y hop known primary =
      let right = (and_parts (hop_is_right net plan y (primary_of plan y)) _ (fine.rules.hops y known)).0 in
      let one : (is_member plan hop.parent && is_present plan hop.link && joins net hop.link y hop.parent) ≡ true =
      subst (λ o. hop_is_right net plan y o ≡ true) primary right in
      (and_parts (is_member plan hop.parent) (is_present plan hop.link)
      (and_parts (is_member plan hop.parent && is_present plan hop.link) (joins net hop.link y hop.parent) one).0).1

  -- the backup root is not the root, so its walk has a hop
  some_above : (hs : List Hop) → walk net plan plan.backup_root ≡ hs → 1 ≤ length hs
  some_above (hop ∷ hs) is = omega arith
  some_above [] is =
      let reach : is_root plan (end_of plan.backup_root (walk net plan plan.backup_root)) ≡ true =
      implied (is_member plan plan.backup_root) _ (fine.rules.reaches plan.backup_root fine.fits.backup_root) fine.backup_member in
      let root : is_root plan plan.backup_root ≡ true = subst (λ hs. is_root plan (end_of plan.backup_root hs) ≡ true) is reach in
      absurd (not_both (nat_eq plan.backup_root plan.root) (eq-eqb plan.backup_root plan.root (sym (eqb-true plan.root plan.backup_root root))) fine.apart)

  on_more : (a c : Bool) → a ≡ false → (a || c) ≡ true → c ≡ true
  on_more true c is on = cc
  on_more false c is on = on

  more_missed : (e : Bool) (hop : Hop) (hs : List Hop) → e ≡ false → touches failed (things_of (elim e [ true ↦ [] | false ↦ cut_off plan hs ])) ≡ false
      → touches failed (things_of (cut_off plan hs)) ≡ false
  more_missed true hop hs is none = cc
  more_missed false hop hs is none = none

  abbrev CutTail : ℕ → List Hop → Bool → Hop → Type 0
  CutTail y hs e hop =
      Walks plan (IsCutClear net plan failed) hop.parent (elim e [ true ↦ [] | false ↦ cut_off plan hs ])
      × (end_of hop.parent (elim e as (λ (k : Bool). List Hop) [ true ↦ [] | false ↦ cut_off plan hs ]) ≡ plan.backup_root)
      × (length (elim e as (λ (k : Bool). List Hop) [ true ↦ [] | false ↦ cut_off plan hs ]) + 1 ≤ length hs)

  pub cut_walk : (hs : List Hop) (y : ℕ) → walk net plan y ≡ hs → y < length net.devices → is_member plan y ≡ true → is_backup_root plan y ≡ false
      → is_among failed (thing.Device y) ≡ false → touches failed (things_of (cut_off plan hs)) ≡ false
      → has (map (λ (h : Hop). h.parent) hs) plan.backup_root ≡ true → CutWalk net plan failed y hs
  cut_walk [] y is known member ordinary self none on = cc
  cut_walk (hop ∷ hs) y is known member ordinary self none on =
      let s : Steps_ y hop hs = steps_at y hop hs is known member in
      let one = or_parts (is_among failed (thing.Link hop.link))
      (is_among failed (thing.Device hop.parent) || touches failed (things_of (elim (ends_walks plan hop.parent) [ true ↦ [] | false ↦ cut_off plan hs ])))
      none in
      let two = or_parts (is_among failed (thing.Device hop.parent))
      (touches failed (things_of (elim (ends_walks plan hop.parent) [ true ↦ [] | false ↦ cut_off plan hs ]))) one.1 in
      let rest : CutTail y hs (ends_walks plan hop.parent) hop =
      tail_by (λ z w k m o f n r. cut_walk hs z w k m o f n r) s two.1 two.0 (is_root plan hop.parent) refl (is_backup_root plan hop.parent) refl in
      record {
        clear =
            walks
            (record {
              primary = s.primary;
              other = s.other;
              ordinary = ordinary;
              known = known;
              member = member;
              self = self;
              cut_path = ap (touches failed) (epath_is plan net y ∙ ap (λ l. things_of (cut_off plan l)) is) ∙ none;
              link = one.0;
              parent = two.0;
              within = subst (λ o. IfSome o (IsHop net)) s.primary (hops_within net plan y fine.fits).0;
              present = present_of y hop known s.primary;
            })
            rest.0;
        ends = rest.1;
        short = longer (length (elim (ends_walks plan hop.parent) as (λ (k : Bool). List Hop) [ true ↦ [] | false ↦ cut_off plan hs ])) (length hs) rest.2;
      }
    where
      longer : (a n : ℕ) → a + 1 ≤ n → suc a + 1 ≤ suc n
      longer a n le = omega (arith, le)

      least : (n : ℕ) → 1 ≤ n → 0 + 1 ≤ n
      least n le = omega (arith, le)

      tail_by : ((z : ℕ) → walk net plan z ≡ hs → z < length net.devices → is_member plan z ≡ true → is_backup_root plan z ≡ false
          → is_among failed (thing.Device z) ≡ false → touches failed (things_of (cut_off plan hs)) ≡ false
          → has (map (λ (h : Hop). h.parent) hs) plan.backup_root ≡ true → CutWalk net plan failed z hs) → Steps_ y hop hs
          → touches failed (things_of (elim (ends_walks plan hop.parent) [ true ↦ [] | false ↦ cut_off plan hs ])) ≡ false
          → is_among failed (thing.Device hop.parent) ≡ false → (r : Bool) → is_root plan hop.parent ≡ r → (b : Bool) → is_backup_root plan hop.parent ≡ b
          → CutTail y hs (ends_walks plan hop.parent) hop
      tail_by again s missed parent r root true backup =
          subst (λ e. CutTail y hs e hop) (sym (ap (λ c. is_root plan hop.parent || c) backup ∙ or_true (is_root plan hop.parent))) (
            over,
            sym (eqb-true plan.backup_root hop.parent backup),
            least (length hs)
                (some_above hs (ap (walk net plan) (eqb-true plan.backup_root hop.parent backup) ∙ s.rest)),
          )
        where
          or_true : (a : Bool) → (a || true) ≡ true
          or_true true = refl
          or_true false = refl
      tail_by again s missed parent true root false backup =
          absurd (nothing hs (sym s.rest ∙ none_by hop.parent root)
          (on_more (nat_eq plan.backup_root hop.parent) (has (map (λ (h : Hop). h.parent) hs) plan.backup_root) backup on))
        where
          nothing : (l : List Hop) → l ≡ [] → has (map (λ (h : Hop). h.parent) l) plan.backup_root ≡ true → ⊥
          nothing [] is' on' = cc
          nothing (k ∷ l) is' on' = cc
      tail_by again s missed parent false root false backup =
          let low : ends_walks plan hop.parent ≡ false = or_from (is_root plan hop.parent) (is_backup_root plan hop.parent) root backup in
          let c : CutWalk net plan failed hop.parent hs =
          again hop.parent s.rest s.known s.member backup parent (more_missed (ends_walks plan hop.parent) hop hs low missed)
          (on_more (nat_eq plan.backup_root hop.parent) (has (map (λ (h : Hop). h.parent) hs) plan.backup_root) backup on) in
          subst (λ e. CutTail y hs e hop) (sym low) (c.clear, c.ends, c.short)

  -- of a device behind the backup root whose cut path is missed
  pub cut_walk_of : (y : ℕ) → y < length net.devices → is_member plan y ≡ true → is_backup_root plan y ≡ false → is_among failed (thing.Device y) ≡ false
      → touches failed (epath net plan y) ≡ false → on_walk net plan y plan.backup_root ≡ true
      → CutWalk net plan failed y (walk net plan y)
  cut_walk_of y known member ordinary self none on =
      cut_walk (walk net plan y) y refl known member ordinary self (sym (ap (touches failed) (epath_is plan net y)) ∙ none)
      (on_more (nat_eq plan.backup_root y) (has (map (λ (h : Hop). h.parent) (walk net plan y)) plan.backup_root) ordinary on)

-- The walk of a member on whose path nothing failed: each of its hops is the primary one of a member whose own path is clear too.
use Rattle.std.specs.Prelude.{◌≡◌, ℕ, zero, suc, ◌<◌, ◌≤◌, Bool, true, false, ◌&&◌, ◌||◌, List, [], ◌∷◌, length, Option, Some, None, refl, IfSome, if◌then◌else◌}
use Rattle.std.specs.List.{list_any}
use Rattle.std.proofs.Common.{arith, sym, ◌∙◌, ap, subst}
use Rattle.std.proofs.lemmas.Bool.{and_parts, or_parts, false_from_ne_true}
use Rattle.sd_plan.specs.topo.Network.{Network, joins}
use Rattle.sd_plan.specs.declared.topo.Thing.{Thing}
use Rattle.sd_plan.specs.declared.topo.Thing.TheVariants as thing
use Rattle.sd_plan.specs.declared.Hop.{Hop}
use Rattle.sd_plan.specs.declared.Plan.{Plan}
use Rattle.sd_plan.specs.Plans.{Fits, IsHop, is_member, is_present, is_root, is_backup_root, primary_of}
use Rattle.sd_plan.specs.Walks.{hops, walk, path, epath, things_of, end_of, ends_walks}
use Rattle.sd_plan.specs.Structure.{hop_is_right}
use Rattle.sd_plan.proofs.Rules.{KeepsRules, hops_within}
use Rattle.sd_safety.specs.invariant.Eras.{is_among, touches}
use Rattle.sd_safety.proofs.invariant.Sides.{implied, not_both}
use Rattle.sd_safety.proofs.silences.WalkWays.{Walks, over, walks}

-- a hop on a clear walk
pub record IsClear (net : Network) (plan : Plan) (failed : List Thing) (y : ℕ) (hop : Hop) : Type 0 where
  pub primary : primary_of plan y ≡ Some hop
  pub other : is_root plan y ≡ false
  pub known : y < length net.devices
  pub member : is_member plan y ≡ true
  pub self : is_among failed (thing.Device y) ≡ false
  pub path_ : touches failed (path net plan y) ≡ false
  pub link : is_among failed (thing.Link hop.link) ≡ false
  pub parent : is_among failed (thing.Device hop.parent) ≡ false
  pub within : IsHop net hop
  pub present : is_present plan hop.link ≡ true

module _ (plan : Plan) where
  abbrev after : ℕ → Bool → Hop → List Hop
  after n b hop = elim b [ true ↦ [] | false ↦ hops (is_root plan) plan n hop.parent ]

  -- more steps change nothing where the root was reached
  more_by : (n m : ℕ) (y : ℕ) (o : Option Hop) → is_root plan (end_of y (elim o [ None ↦ [] | Some hop ↦ hop ∷ after n (is_root plan hop.parent) hop ])) ≡ true
      → ((z : ℕ) → is_root plan z ≡ false → is_root plan (end_of z (hops (is_root plan) plan n z)) ≡ true
      → hops (is_root plan) plan m z ≡ hops (is_root plan) plan n z)
      → ◌≡◌ {A = List Hop} (elim o [ None ↦ [] | Some hop ↦ hop ∷ after m (is_root plan hop.parent) hop ])
      (elim o [ None ↦ [] | Some hop ↦ hop ∷ after n (is_root plan hop.parent) hop ])
  more_by n m y None ends more = refl
  more_by n m y (Some hop) ends more = go (is_root plan hop.parent) refl ends
    where
      go : (b : Bool) → is_root plan hop.parent ≡ b → is_root plan (end_of hop.parent (after n b hop)) ≡ true
          → ◌≡◌ {A = List Hop} (hop ∷ after m b hop) (hop ∷ after n b hop)
      go true is ends' = refl
      go false is ends' = ap (λ hs. hop ∷ hs) (more hop.parent is ends')

  more_steps : (n m : ℕ) (y : ℕ) → n ≤ m → is_root plan y ≡ false → is_root plan (end_of y (hops (is_root plan) plan n y)) ≡ true
      → hops (is_root plan) plan m y ≡ hops (is_root plan) plan n y
  more_steps zero m y le other ends = absurd (not_both (is_root plan y) ends other)
  more_steps (suc n) zero y le other ends = absurd (omega (arith, le))
  more_steps (suc n) (suc m) y le other ends = more_by n m y (primary_of plan y) ends (λ z off reach. more_steps n m z (omega (arith, le)) off reach)

  -- the first hop of a walk, and the walk behind it
  record Begins (net : Network) (y : ℕ) (hop : Hop) (hs : List Hop) : Type 0 where
    primary : primary_of plan y ≡ Some hop
    other : is_root plan y ≡ false
    rest : walk net plan hop.parent ≡ hs

  first_hop : (x hop : Hop) (xs hs : List Hop) → ◌≡◌ {A = List Hop} (x ∷ xs) (hop ∷ hs) → (x ≡ hop) × (xs ≡ hs)
  first_hop x hop xs hs same = (ap (λ (l : List Hop). elim l [ [] ↦ x | z ∷ zs ↦ z ]) same, ap (λ (l : List Hop). elim l [ [] ↦ xs | z ∷ zs ↦ zs ]) same)

  begins_by : (net : Network) (y : ℕ) (hop : Hop) (hs : List Hop) (n : ℕ) → net.params.depth ≡ n → is_root plan y ≡ false
      → hops (is_root plan) plan n y ≡ hop ∷ hs → is_root plan (end_of hop.parent hs) ≡ true → Begins net y hop hs
  begins_by net y hop hs zero is other same ends = cc
  begins_by net y hop hs (suc n) is other same ends = go (primary_of plan y) refl same
    where
      by_root : (b : Bool) → is_root plan hop.parent ≡ b → after n b hop ≡ hs → (if b then [] else hops (is_root plan) plan net.params.depth hop.parent) ≡ hs
      by_root true root rest = rest
      by_root false root rest =
          more_steps n net.params.depth hop.parent (omega (arith, is)) root (subst (λ l. is_root plan (end_of hop.parent l) ≡ true) (sym rest) ends) ∙ rest

      go : (o : Option Hop) → primary_of plan y ≡ o → ◌≡◌ {A = List Hop} (elim o [ None ↦ [] | Some h ↦ h ∷ after n (is_root plan h.parent) h ]) (hop ∷ hs)
          → Begins net y hop hs
      go None primary same' = cc
      go (Some h) primary same' =
          let parts = first_hop h hop (after n (is_root plan h.parent) h) hs same' in
          record {
            primary = primary ∙ ap Some parts.0;
            other = other;
            rest = by_root (is_root plan hop.parent) refl (subst (λ z. after n (is_root plan z.parent) z ≡ hs) parts.0 parts.1);
          }

  begins : (net : Network) (y : ℕ) (hop : Hop) (hs : List Hop) (b : Bool) → is_root plan y ≡ b
      → (if b then [] else hops (is_root plan) plan net.params.depth y) ≡ hop ∷ hs → is_root plan (end_of hop.parent hs) ≡ true → Begins net y hop hs
  begins net y hop hs true is same ends = cc
  begins net y hop hs false is same ends = begins_by net y hop hs net.params.depth refl is same ends

  module _ (net : Network) (failed : List Thing) (fits : Fits net plan) (rules : KeepsRules net plan) where
    hop_right : (y : ℕ) (hop : Hop) → y < length net.devices → primary_of plan y ≡ Some hop
        → (is_member plan hop.parent ≡ true) × (is_present plan hop.link ≡ true)
    hop_right y hop within primary =
        let right = (and_parts (hop_is_right net plan y (primary_of plan y)) _ (rules.hops y within)).0 in
        let one : (is_member plan hop.parent && is_present plan hop.link && joins net hop.link y hop.parent) ≡ true =
        subst (λ o. hop_is_right net plan y o ≡ true) primary right in
        let two = and_parts (is_member plan hop.parent && is_present plan hop.link) (joins net hop.link y hop.parent) one in
        and_parts (is_member plan hop.parent) (is_present plan hop.link) two.0

    hop_known : (y : ℕ) (hop : Hop) → primary_of plan y ≡ Some hop → IsHop net hop
    hop_known y hop primary = subst (λ o. IfSome o (IsHop net)) primary (hops_within net plan y fits).0

    pub clear_walk : (hs : List Hop) (y : ℕ) → walk net plan y ≡ hs → y < length net.devices → is_member plan y ≡ true
        → is_among failed (thing.Device y) ≡ false → touches failed (things_of hs) ≡ false
        → Walks plan (IsClear net plan failed) y hs
    clear_walk [] y is known member self none = over
    clear_walk (hop ∷ hs) y is known member self none =
        let reach : is_root plan (end_of y (walk net plan y)) ≡ true = implied (is_member plan y) _ (rules.reaches y known) member in
        let b : Begins net y hop hs = begins net y hop hs (is_root plan y) refl is (subst (λ l. is_root plan (end_of y l) ≡ true) is reach) in
        let one = or_parts (is_among failed (thing.Link hop.link)) (is_among failed (thing.Device hop.parent) || touches failed (things_of hs)) none in
        let two = or_parts (is_among failed (thing.Device hop.parent)) (touches failed (things_of hs)) one.1 in
        let right = hop_right y hop known b.primary in
        let within = hop_known y hop b.primary in
        walks
        (record {
          primary = b.primary;
          other = b.other;
          known = known;
          member = member;
          self = self;
          path_ = subst (λ l. touches failed (things_of l) ≡ false) (sym is) none;
          link = one.0;
          parent = two.0;
          within = within;
          present = right.1;
        })
        (clear_walk hs hop.parent b.rest within.0 right.0 two.0 two.1)

  -- what touches the cut path touches the path
  cut_by : (p : Thing → Bool) (n : ℕ) (hop : Hop) (r e : Bool)
      → list_any p (things_of (elim (r || e) [ true ↦ [] | false ↦ hops (ends_walks plan) plan n hop.parent ])) ≡ true
      → (list_any p (things_of (hops (ends_walks plan) plan n hop.parent)) ≡ true → list_any p (things_of (hops (is_root plan) plan n hop.parent)) ≡ true)
      → list_any p (things_of (after n r hop)) ≡ true
  cut_by p n hop true e h more = h
  cut_by p n hop false true h more = cc
  cut_by p n hop false false h more = more h

  or_on : (a b c d : Bool) → (a || (b || c)) ≡ true → (c ≡ true → d ≡ true) → (a || (b || d)) ≡ true
  or_on true b c d h more = refl
  or_on false true c d h more = refl
  or_on false false c d h more = more h

  cut_hop : (p : Thing → Bool) (n : ℕ) (o : Option Hop)
      → list_any p
      (things_of (elim o [ None ↦ [] | Some hop ↦ hop ∷ (elim (ends_walks plan hop.parent) [ true ↦ [] | false ↦ hops (ends_walks plan) plan n hop.parent ]) ]))
      ≡ true
      → ((z : ℕ) → list_any p (things_of (hops (ends_walks plan) plan n z)) ≡ true → list_any p (things_of (hops (is_root plan) plan n z)) ≡ true)
      → list_any p (things_of (elim o [ None ↦ [] | Some hop ↦ hop ∷ after n (is_root plan hop.parent) hop ])) ≡ true
  cut_hop p n None h more = h
  cut_hop p n (Some hop) h more =
      or_on (p (thing.Link hop.link)) (p (thing.Device hop.parent))
      (list_any p (things_of (elim (ends_walks plan hop.parent) [ true ↦ [] | false ↦ hops (ends_walks plan) plan n hop.parent ])))
      (list_any p (things_of (after n (is_root plan hop.parent) hop))) h
      (λ on. cut_by p n hop (is_root plan hop.parent) (is_backup_root plan hop.parent) on (more hop.parent))

  cut_hops : (p : Thing → Bool) (n y : ℕ) → list_any p (things_of (hops (ends_walks plan) plan n y)) ≡ true
      → list_any p (things_of (hops (is_root plan) plan n y)) ≡ true
  cut_hops p zero y h = h
  cut_hops p (suc n) y h = cut_hop p n (primary_of plan y) h (cut_hops p n)

  pub path_misses_cut : (net : Network) (failed : List Thing) (y : ℕ) → touches failed (path net plan y) ≡ false → touches failed (epath net plan y) ≡ false
  path_misses_cut net failed y none =
      false_from_ne_true (touches failed (epath net plan y)) (λ is. not_both (touches failed (path net plan y)) (go (is_root plan y) is) none)
    where
      go : (b : Bool) → list_any (is_among failed) (things_of (if b then [] else hops (ends_walks plan) plan net.params.depth y)) ≡ true
          → list_any (is_among failed) (things_of (if b then [] else hops (is_root plan) plan net.params.depth y)) ≡ true
      go true h = h
      go false h = cut_hops (is_among failed) net.params.depth y h

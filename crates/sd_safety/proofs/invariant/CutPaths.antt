-- The cut path of a device that is not behind the backup root is its path. The root is on the path of each device but itself, on the cut path of
-- one that is not behind the backup root, and not on that of one behind it.
use Rattle.std.specs.Prelude.{◌≡◌, ℕ, zero, suc, Bool, true, false, ◌||◌, List, [], ◌∷◌, map, nat_eq, length, ◌<◌, Option, Some, None, refl, if◌then◌else◌, ◌⊎◌}
use Rattle.std.proofs.Common.{◌∙◌, ap, sym, subst, inl, inr}
use Rattle.std.proofs.lemmas.Bool.{or_parts, or_from, eqb-true, eq-eqb}
use Rattle.sd_num.specs.Lists.{has}
use Rattle.sd_plan.specs.topo.Network.{Network}
use Rattle.sd_plan.specs.declared.topo.Thing.{Thing}
use Rattle.sd_plan.specs.declared.topo.Thing.TheVariants as thing
use Rattle.sd_plan.specs.declared.Hop.{Hop}
use Rattle.sd_plan.specs.declared.Plan.{Plan}
use Rattle.sd_plan.specs.Plans.{is_member, is_root, is_backup_root, primary_of}
use Rattle.sd_plan.specs.Walks.{hops, walk, path, epath, things_of, end_of, ends_walks, on_walk}
use Rattle.sd_plan.proofs.Rules.{KeepsRules}
use Rattle.sd_history.proofs.Among.{Among, first, later}
use Rattle.sd_safety.proofs.invariant.Sides.{implied, not_both}

module _ (plan : Plan) where
  -- hops that lead from another device to the root pass it
  root_when : (h : Hop) (hs : List Hop) (b : Bool) → is_root plan h.parent ≡ b → (is_root plan h.parent ≡ false → Among (thing.Device plan.root) (things_of hs))
      → Among (thing.Device plan.root) (things_of (h ∷ hs))
  root_when h hs true is more = later (subst (λ r. Among (thing.Device r) (thing.Device h.parent ∷ things_of hs)) (sym (eqb-true plan.root h.parent is)) first)
  root_when h hs false is more = later (later (more is))

  root_passed : (x : ℕ) (hs : List Hop) → is_root plan x ≡ false → is_root plan (end_of x hs) ≡ true → Among (thing.Device plan.root) (things_of hs)
  root_passed x [] other ends = absurd (not_both (is_root plan x) ends other)
  root_passed x (h ∷ hs) other ends = root_when h hs (is_root plan h.parent) refl (λ on. root_passed h.parent hs on ends)

  -- where the backup root is on no part of a walk, cutting it there changes nothing
  abbrev Misses : ℕ → List Hop → Type 0
  Misses x hs = has (map (λ (h : Hop). h.parent) hs) plan.backup_root ≡ false

  other_end : (x : ℕ) → is_root plan x ≡ false → nat_eq plan.backup_root x ≡ false → ends_walks plan x ≡ false
  other_end x root backup = or_from (is_root plan x) (is_backup_root plan x) root backup

  same_cut : (n : ℕ) (hop : Hop) (b : Bool) → is_root plan hop.parent ≡ b
      → has (map (λ (h : Hop). h.parent) (hop ∷ (elim b [ true ↦ [] | false ↦ hops (is_root plan) plan n hop.parent ]))) plan.backup_root ≡ false
      → (Misses hop.parent (hops (is_root plan) plan n hop.parent) → hops (ends_walks plan) plan n hop.parent ≡ hops (is_root plan) plan n hop.parent)
      → (hop ∷ (elim (ends_walks plan hop.parent) [ true ↦ [] | false ↦ hops (ends_walks plan) plan n hop.parent ]))
      ≡ (hop ∷ (elim b [ true ↦ [] | false ↦ hops (is_root plan) plan n hop.parent ]))
  same_cut n hop true is misses more =
      ap (λ e. hop ∷ (elim e [ true ↦ [] | false ↦ hops (ends_walks plan) plan n hop.parent ])) (ap (λ r. r || is_backup_root plan hop.parent) is)
  same_cut n hop false is misses more =
      let parts = or_parts (nat_eq plan.backup_root hop.parent) _ misses in
      ap (λ e. hop ∷ (elim e [ true ↦ [] | false ↦ hops (ends_walks plan) plan n hop.parent ])) (other_end hop.parent is parts.0)
      ∙ ap (λ hs. hop ∷ hs) (more parts.1)

  same_by : (n x : ℕ) (o : Option Hop)
      → has (map (λ (h : Hop). h.parent)
      (elim o [ None ↦ [] | Some hop ↦ hop ∷ (elim (is_root plan hop.parent) [ true ↦ [] | false ↦ hops (is_root plan) plan n hop.parent ]) ]))
      plan.backup_root ≡ false
      → ((y : ℕ) → Misses y (hops (is_root plan) plan n y) → hops (ends_walks plan) plan n y ≡ hops (is_root plan) plan n y)
      → ◌≡◌ {A = List Hop}
      (elim o [ None ↦ [] | Some hop ↦ hop ∷ (elim (ends_walks plan hop.parent) [ true ↦ [] | false ↦ hops (ends_walks plan) plan n hop.parent ]) ])
      (elim o [ None ↦ [] | Some hop ↦ hop ∷ (elim (is_root plan hop.parent) [ true ↦ [] | false ↦ hops (is_root plan) plan n hop.parent ]) ])
  same_by n x None misses more = refl
  same_by n x (Some hop) misses more = same_cut n hop (is_root plan hop.parent) refl misses (more hop.parent)

  same_hops : (n x : ℕ) → Misses x (hops (is_root plan) plan n x) → hops (ends_walks plan) plan n x ≡ hops (is_root plan) plan n x
  same_hops zero x misses = refl
  same_hops (suc n) x misses = same_by n x (primary_of plan x) misses (same_hops n)

  same_path : (net : Network) (x : ℕ) (b : Bool)
      → has (map (λ (h : Hop). h.parent) (if b then [] else hops (is_root plan) plan net.params.depth x)) plan.backup_root ≡ false
      → (if b then [] else hops (ends_walks plan) plan net.params.depth x) ≡ (if b then [] else hops (is_root plan) plan net.params.depth x)
  same_path net x true misses = refl
  same_path net x false misses = same_hops net.params.depth x misses

  pub uncut_path : (net : Network) (x : ℕ) → on_walk net plan x plan.backup_root ≡ false → epath net plan x ≡ path net plan x
  uncut_path net x off =
      let parts = or_parts (nat_eq plan.backup_root x) (has (map (λ (h : Hop). h.parent) (walk net plan x)) plan.backup_root) off in
      ap things_of (same_path net x (is_root plan x) parts.1)

  -- where a cut walk passes the root, the backup root is on no part of the walk behind its beginning
  is_no_link : (l : ℕ) (y : Thing) → y ≡ thing.Link l → y ≡ thing.Device plan.root → ⊥
  is_no_link l y one two = cc

  device_is : (a c : ℕ) → thing.Device a ≡ thing.Device c → a ≡ c
  device_is a c same = ap number same
    where
      number : Thing → ℕ
      number (thing.Device d) = d
      number (thing.Link l) = l

  module _ (apart : nat_eq plan.backup_root plan.root ≡ false) where
    abbrev Passes : List Hop → Type 0
    Passes hs = Among (thing.Device plan.root) (things_of hs)

    -- the first hop leads to the root, or a later one does
    pass_first : (y : Thing) (h : Hop) (hs : List Hop) → y ≡ thing.Device plan.root → Among y (thing.Link h.link ∷ thing.Device h.parent ∷ things_of hs)
        → (plan.root ≡ h.parent) ⊎ Among y (things_of hs)
    pass_first y h hs is first = absurd (is_no_link h.link y refl is)
    pass_first y h hs is (later first) = inl (sym (device_is h.parent plan.root is))
    pass_first y h hs is (later (later a)) = inr a

    missed_when : (n : ℕ) (hop : Hop) (r e : Bool) → is_root plan hop.parent ≡ r → is_backup_root plan hop.parent ≡ e
        → (plan.root ≡ hop.parent) ⊎ Passes (elim (r || e) [ true ↦ [] | false ↦ hops (ends_walks plan) plan n hop.parent ])
        → (Passes (hops (ends_walks plan) plan n hop.parent) → Misses hop.parent (hops (is_root plan) plan n hop.parent))
        → has (map (λ (h : Hop). h.parent) (hop ∷ (elim r [ true ↦ [] | false ↦ hops (is_root plan) plan n hop.parent ]))) plan.backup_root ≡ false
    missed_when n hop true e root backup way more =
        or_from (nat_eq plan.backup_root hop.parent) false (subst (λ y. nat_eq plan.backup_root y ≡ false) (eqb-true plan.root hop.parent root) apart) refl
    missed_when n hop false e root backup (inl same) more = absurd (not_both (is_root plan hop.parent) (eq-eqb plan.root hop.parent same) root)
    missed_when n hop false true root backup (inr a) more = elim a [ ]
    missed_when n hop false false root backup (inr a) more = or_from (nat_eq plan.backup_root hop.parent) _ backup (more a)

    missed_by : (n x : ℕ) (o : Option Hop)
        → Passes (elim o [ None ↦ [] | Some hop ↦ hop ∷ (elim (ends_walks plan hop.parent) [ true ↦ [] | false ↦ hops (ends_walks plan) plan n hop.parent ]) ])
        → ((y : ℕ) → Passes (hops (ends_walks plan) plan n y) → Misses y (hops (is_root plan) plan n y))
        → has (map (λ (h : Hop). h.parent)
        (elim o [ None ↦ [] | Some hop ↦ hop ∷ (elim (is_root plan hop.parent) [ true ↦ [] | false ↦ hops (is_root plan) plan n hop.parent ]) ]))
        plan.backup_root ≡ false
    missed_by n x None a more = refl
    missed_by n x (Some hop) a more =
        missed_when n hop (is_root plan hop.parent) (is_backup_root plan hop.parent) refl refl
        (pass_first (thing.Device plan.root) hop (elim (ends_walks plan hop.parent) [ true ↦ [] | false ↦ hops (ends_walks plan) plan n hop.parent ]) refl a)
        (more hop.parent)

    missed : (n x : ℕ) → Passes (hops (ends_walks plan) plan n x) → Misses x (hops (is_root plan) plan n x)
    missed zero x a = elim a [ ]
    missed (suc n) x a = missed_by n x (primary_of plan x) a (missed n)

    missed_path : (net : Network) (x : ℕ) (b : Bool) → Passes (if b then [] else hops (ends_walks plan) plan net.params.depth x)
        → has (map (λ (h : Hop). h.parent) (if b then [] else hops (is_root plan) plan net.params.depth x)) plan.backup_root ≡ false
    missed_path net x true a = elim a [ ]
    missed_path net x false a = missed net.params.depth x a

    -- the root is not on the cut path of another device that is behind the backup root
    pub root_not_on_cut : (net : Network) (x : ℕ) → is_backup_root plan x ≡ false → on_walk net plan x plan.backup_root ≡ true
        → Among (thing.Device plan.root) (epath net plan x) → ⊥
    root_not_on_cut net x other on a =
        not_both (on_walk net plan x plan.backup_root) on
        (or_from (nat_eq plan.backup_root x) (has (map (λ (h : Hop). h.parent) (walk net plan x)) plan.backup_root) other
        (missed_path net x (is_root plan x) a))

  module _ (net : Network) (rules : KeepsRules net plan) where
    ends : (x : ℕ) → x < length net.devices → is_member plan x ≡ true → is_root plan (end_of x (walk net plan x)) ≡ true
    ends x within member = implied (is_member plan x) _ (rules.reaches x within) member

    -- the root is on the path of each other member
    pub root_on_path : (x : ℕ) → x < length net.devices → is_member plan x ≡ true → is_root plan x ≡ false → Among (thing.Device plan.root) (path net plan x)
    root_on_path x within member other = root_passed x (walk net plan x) other (ends x within member)

    -- and on the cut path of one that is not behind the backup root
    pub root_on_cut : (x : ℕ) → x < length net.devices → is_member plan x ≡ true → is_root plan x ≡ false → on_walk net plan x plan.backup_root ≡ false
        → Among (thing.Device plan.root) (epath net plan x)
    root_on_cut x within member other off = subst (Among (thing.Device plan.root)) (sym (uncut_path net x off)) (root_on_path x within member other)

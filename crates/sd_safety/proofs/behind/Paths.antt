-- The path of a device is its cut path and what the path of the backup root has: so where neither is hit, it is not.
use Rattle.std.specs.Prelude.{◌≡◌, ℕ, zero, suc, Bool, true, false, ◌||◌, List, [], ◌∷◌, map, nat_eq, Option, Some, None, refl, if◌then◌else◌, ◌⊎◌}
use Rattle.std.proofs.Common.{sym, subst, inl, inr}
use Rattle.std.proofs.lemmas.Bool.{eqb-true, false_from_ne_true}
use Rattle.sd_num.specs.Lists.{has}
use Rattle.sd_plan.specs.topo.Network.{Network}
use Rattle.sd_plan.specs.declared.topo.Thing.{Thing}
use Rattle.sd_plan.specs.declared.topo.Thing.TheVariants as thing
use Rattle.sd_plan.specs.declared.Hop.{Hop}
use Rattle.sd_plan.specs.declared.Plan.{Plan}
use Rattle.sd_plan.specs.Plans.{is_root, is_backup_root, primary_of}
use Rattle.sd_plan.specs.Walks.{hops, walk, path, epath, things_of, ends_walks, on_walk}
use Rattle.sd_history.proofs.Among.{Among, first, later, any_passing}
use Rattle.sd_safety.specs.invariant.Eras.{is_among, touches}
use Rattle.sd_safety.proofs.invariant.Prefix.{Passing, some_passing}
use Rattle.sd_safety.proofs.invariant.Sides.{not_both}

module _ (plan : Plan) (y : Thing) where
  abbrev In : List Hop → Type 0
  In hs = Among y (things_of hs)

  -- a longer walk has what a shorter one has
  tail_more : (z : Thing) (link d : Thing) (xs ys : List Thing) → z ≡ y → (Among y xs → Among y ys) → Among z (link ∷ d ∷ xs) → Among z (link ∷ d ∷ ys)
  tail_more z link d xs ys is more first = first
  tail_more z link d xs ys is more (later first) = later first
  tail_more z link d xs ys is more (later (later a)) = later (later (subst (λ w. Among w ys) (sym is) (more (subst (λ w. Among w xs) is a))))

  more_by : (m n : ℕ) (hop : Hop) (r : Bool) → (In (hops (is_root plan) plan m hop.parent) → In (hops (is_root plan) plan n hop.parent))
      → In (hop ∷ (elim r [ true ↦ [] | false ↦ hops (is_root plan) plan m hop.parent ]))
      → In (hop ∷ (elim r [ true ↦ [] | false ↦ hops (is_root plan) plan n hop.parent ]))
  more_by m n hop true more a = a
  more_by m n hop false more a =
      tail_more y (thing.Link hop.link) (thing.Device hop.parent) (things_of (hops (is_root plan) plan m hop.parent))
      (things_of (hops (is_root plan) plan n hop.parent)) refl more a

  more_from : (m n x : ℕ) (o : Option Hop) → ((z : ℕ) → In (hops (is_root plan) plan m z) → In (hops (is_root plan) plan n z))
      → In (elim o [ None ↦ [] | Some hop ↦ hop ∷ (elim (is_root plan hop.parent) [ true ↦ [] | false ↦ hops (is_root plan) plan m hop.parent ]) ])
      → In (elim o [ None ↦ [] | Some hop ↦ hop ∷ (elim (is_root plan hop.parent) [ true ↦ [] | false ↦ hops (is_root plan) plan n hop.parent ]) ])
  more_from m n x None more a = elim a [ ]
  more_from m n x (Some hop) more a = more_by m n hop (is_root plan hop.parent) (more hop.parent) a

  longer : (m x : ℕ) → In (hops (is_root plan) plan m x) → In (hops (is_root plan) plan (suc m) x)
  longer zero x a = elim a [ ]
  longer (suc m) x a = more_from m (suc m) x (primary_of plan x) (longer m) a

  -- what a walk has, the cut walk has, or the walk of the backup root
  cut_tail : (z : Thing) (link d : Thing) (xs ys zs : List Thing) → z ≡ y → (Among y xs → Among y ys ⊎ Among y zs) → Among z (link ∷ d ∷ xs)
      → Among z (link ∷ d ∷ ys) ⊎ Among z zs
  cut_tail z link d xs ys zs is more first = inl first
  cut_tail z link d xs ys zs is more (later first) = inl (later first)
  cut_tail z link d xs ys zs is more (later (later a)) =
      elim (more (subst (λ w. Among w xs) is a)) [
        | inl in_ ↦ inl (later (later (subst (λ w. Among w ys) (sym is) in_)))
        | inr in_ ↦ inr
            (subst (λ w. Among w zs) (sym is) in_)
      ]

  cut_by : (n : ℕ) (hop : Hop) (r e : Bool) → is_backup_root plan hop.parent ≡ e
      → (In (hops (is_root plan) plan n hop.parent) → In (hops (ends_walks plan) plan n hop.parent) ⊎ In (hops (is_root plan) plan n plan.backup_root))
      → In (hop ∷ (elim r [ true ↦ [] | false ↦ hops (is_root plan) plan n hop.parent ]))
      → In (hop ∷ (elim (r || e) [ true ↦ [] | false ↦ hops (ends_walks plan) plan n hop.parent ])) ⊎ In (hops (is_root plan) plan n plan.backup_root)
  cut_by n hop true e is more a = inl a
  cut_by n hop false true is more a =
      cut_tail y (thing.Link hop.link) (thing.Device hop.parent) (things_of (hops (is_root plan) plan n hop.parent)) []
      (things_of (hops (is_root plan) plan n plan.backup_root)) refl
      (λ in_. inr (subst (λ z. In (hops (is_root plan) plan n z)) (sym (eqb-true plan.backup_root hop.parent is)) in_)) a
  cut_by n hop false false is more a =
      cut_tail y (thing.Link hop.link) (thing.Device hop.parent) (things_of (hops (is_root plan) plan n hop.parent))
      (things_of (hops (ends_walks plan) plan n hop.parent)) (things_of (hops (is_root plan) plan n plan.backup_root)) refl more a

  cut_from : (n x : ℕ) (o : Option Hop)
      → ((z : ℕ) → In (hops (is_root plan) plan n z) → In (hops (ends_walks plan) plan n z) ⊎ In (hops (is_root plan) plan n plan.backup_root))
      → In (elim o [ None ↦ [] | Some hop ↦ hop ∷ (elim (is_root plan hop.parent) [ true ↦ [] | false ↦ hops (is_root plan) plan n hop.parent ]) ])
      → In (elim o [ None ↦ [] | Some hop ↦ hop ∷ (elim (ends_walks plan hop.parent) [ true ↦ [] | false ↦ hops (ends_walks plan) plan n hop.parent ]) ])
      ⊎ In (hops (is_root plan) plan n plan.backup_root)
  cut_from n x None more a = elim a [ ]
  cut_from n x (Some hop) more a = cut_by n hop (is_root plan hop.parent) (is_backup_root plan hop.parent) refl (more hop.parent) a

  cut : (n x : ℕ) → In (hops (is_root plan) plan n x) → In (hops (ends_walks plan) plan n x) ⊎ In (hops (is_root plan) plan n plan.backup_root)
  cut zero x a = elim a [ ]
  cut (suc n) x a = elim (cut_from n x (primary_of plan x) (cut n) a) [ inl in_ ↦ inl in_ | inr in_ ↦ inr (longer n plan.backup_root in_) ]

  cut_path : (net : Network) (x : ℕ) (r b : Bool) → b ≡ false → In (if r then [] else hops (is_root plan) plan net.params.depth x)
      → In (if r then [] else hops (ends_walks plan) plan net.params.depth x)
      ⊎ In (if b then [] else hops (is_root plan) plan net.params.depth plan.backup_root)
  cut_path net x true b other a = elim a [ ]
  cut_path net x false true other a = cc
  cut_path net x false false other a = cut net.params.depth x a

-- the path of a device is not hit where neither its cut path nor the path of the backup root is
pub path_by_parts : (net : Network) (plan : Plan) (failed : List Thing) (x : ℕ) → is_root plan plan.backup_root ≡ false
    → touches failed (epath net plan x) ≡ false → touches failed (path net plan plan.backup_root) ≡ false
    → touches failed (path net plan x) ≡ false
path_by_parts net plan failed x other none both =
    false_from_ne_true (touches failed (path net plan x))
    (λ is.
    let one : Passing (is_among failed) (path net plan x) = some_passing (is_among failed) (path net plan x) is in
    elim (cut_path plan one.one net x (is_root plan x) (is_root plan plan.backup_root) other one.there) [
      | inl in_ ↦ not_both (touches failed (epath net plan x)) (any_passing (is_among failed) one.one (epath net plan x) in_ one.passed) none
      | inr in_ ↦ not_both (touches failed (path net plan plan.backup_root))
          (any_passing (is_among failed) one.one (path net plan plan.backup_root) in_ one.passed) both
    ])

-- The backup root is on the cut path of a device behind it

module _ (plan : Plan) where
  abbrev On : List Hop → Type 0
  On hs = Among (thing.Device plan.backup_root) (things_of hs)

  on_when : (n : ℕ) (hop : Hop) (b r : Bool) → nat_eq plan.backup_root hop.parent ≡ b → is_root plan hop.parent ≡ r
      → (b || has (map (λ (h : Hop). h.parent) (elim r [ true ↦ [] | false ↦ hops (is_root plan) plan n hop.parent ])) plan.backup_root) ≡ true
      → (has (map (λ (h : Hop). h.parent) (hops (is_root plan) plan n hop.parent)) plan.backup_root ≡ true → On (hops (ends_walks plan) plan n hop.parent))
      → On (hop ∷ (elim (r || b) [ true ↦ [] | false ↦ hops (ends_walks plan) plan n hop.parent ]))
  on_when n hop true r is root on more =
      subst (λ z. Among (thing.Device z)
      (thing.Link hop.link ∷ thing.Device hop.parent ∷ things_of (elim (r || true) [ true ↦ [] | false ↦ hops (ends_walks plan) plan n hop.parent ])))
      (sym (eqb-true plan.backup_root hop.parent is)) (later first)
  on_when n hop false true is root on more = cc
  on_when n hop false false is root on more = later (later (more on))

  on_by : (n x : ℕ) (o : Option Hop)
      → has (map (λ (h : Hop). h.parent)
      (elim o [ None ↦ [] | Some hop ↦ hop ∷ (elim (is_root plan hop.parent) [ true ↦ [] | false ↦ hops (is_root plan) plan n hop.parent ]) ]))
      plan.backup_root ≡ true
      → ((y : ℕ) → has (map (λ (h : Hop). h.parent) (hops (is_root plan) plan n y)) plan.backup_root ≡ true → On (hops (ends_walks plan) plan n y))
      → On (elim o [ None ↦ [] | Some hop ↦ hop ∷ (elim (ends_walks plan hop.parent) [ true ↦ [] | false ↦ hops (ends_walks plan) plan n hop.parent ]) ])
  on_by n x None on more = cc
  on_by n x (Some hop) on more = on_when n hop (nat_eq plan.backup_root hop.parent) (is_root plan hop.parent) refl refl on (more hop.parent)

  on_hops : (n x : ℕ) → has (map (λ (h : Hop). h.parent) (hops (is_root plan) plan n x)) plan.backup_root ≡ true → On (hops (ends_walks plan) plan n x)
  on_hops zero x on = cc
  on_hops (suc n) x on = on_by n x (primary_of plan x) on (on_hops n)

  on_path : (net : Network) (x : ℕ) (b : Bool)
      → has (map (λ (h : Hop). h.parent) (if b then [] else hops (is_root plan) plan net.params.depth x)) plan.backup_root ≡ true
      → On (if b then [] else hops (ends_walks plan) plan net.params.depth x)
  on_path net x true on = cc
  on_path net x false on = on_hops net.params.depth x on

  -- of a device whose walk leads over the backup root, and that is another
  pub backup_root_on_cut : (net : Network) (x : ℕ) → nat_eq plan.backup_root x ≡ false → on_walk net plan x plan.backup_root ≡ true
      → Among (thing.Device plan.backup_root) (epath net plan x)
  backup_root_on_cut net x other on =
      on_path net x (is_root plan x) (drop (nat_eq plan.backup_root x) (has (map (λ (h : Hop). h.parent) (walk net plan x)) plan.backup_root) other on)
    where
      drop : (a b : Bool) → a ≡ false → (a || b) ≡ true → b ≡ true
      drop false b none is = is
      drop true b none is = cc

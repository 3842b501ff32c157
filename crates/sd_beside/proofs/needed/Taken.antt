-- What a domain takes of path and fallback of the backup root without the root, it takes without both roots too.
use Rattle.std.specs.Prelude.{◌≡◌, ℕ, ◌<◌, Bool, true, false, ◌||◌, not, List, [], ◌∷◌, ◌++◌, ◌⊎◌, length, filter, map, nat_eq, Option, Some, None, option_map, refl, if◌then◌else◌}
use Rattle.std.specs.List.{list_any}
use Rattle.std.proofs.Common.{sym, ap, ◌∙◌, subst, inl, inr}
use Rattle.std.proofs.lemmas.Bool.{and_parts, and_from, and_right, or_cases, or_parts, or_from, or_left, or_right, eqb-true, eq-eqb, cases_Bool, both_ways, not-true, not-false, false_from_ne_true}
use Rattle.std.proofs.lemmas.List.Folds.{list_any-append}
use Rattle.sd_num.specs.Lists.{has, map_or}
use Rattle.sd_plan.specs.topo.Network.{Network}
use Rattle.sd_plan.specs.declared.topo.Thing.{Thing}
use Rattle.sd_plan.specs.declared.topo.Thing.TheVariants as thing
use Rattle.sd_plan.specs.domain.Domains.{holds_device}
use Rattle.sd_plan.specs.declared.domain.DomainId.{DomainId}
use Rattle.sd_plan.specs.declared.Hop.{Hop}
use Rattle.sd_plan.specs.declared.Plan.{Plan}
use Rattle.sd_plan.specs.Plans.{Fits, is_member, is_root, is_backup_root, backup_of}
use Rattle.sd_plan.specs.Walks.{walk, path, things_of, devices_of, links_of, on_walk}
use Rattle.sd_plan.specs.Structure.{structure_breach, roots_breach}
use Rattle.sd_plan.proofs.Numbered.{both_none}
use Rattle.sd_plan.proofs.Forest.{IsForest, IsStep, forest_of, not_above, climb, on_top, on_up, on_inside}
use Rattle.sd_plan.proofs.Rules.{none_mapped}
use Rattle.sd_num.proofs.Shared.{unequal_swap}
use Rattle.sd_beside.specs.needed.Alone.{holds_besides}
use Rattle.sd_beside.specs.needed.Roots.{both_roots, fallback}
use Rattle.sd_beside.proofs.needed.Elements.{kept_has}

-- rule 1
pub record HasRoots (plan : Plan) : Type 0 where
  pub root : is_member plan plan.root ≡ true
  pub backup_root : is_member plan plan.backup_root ≡ true
  pub apart : nat_eq plan.root plan.backup_root ≡ false

pub has_roots : (net : Network) (plan : Plan) → structure_breach net plan ≡ None → HasRoots plan
has_roots net plan structured =
    by (is_member plan plan.root) (is_member plan plan.backup_root) (nat_eq plan.root plan.backup_root) refl refl refl
    (none_mapped (λ d. (1, d)) (roots_breach plan) (both_none (option_map _ (roots_breach plan)) _ structured).0)
  where
    by : (a b e : Bool) → is_member plan plan.root ≡ a → is_member plan plan.backup_root ≡ b → nat_eq plan.root plan.backup_root ≡ e
        → (if not a then Some plan.root else if not b || e then Some plan.backup_root else None) ≡ None → HasRoots plan
    by true true false is_a is_b is_e none = record { root = is_a; backup_root = is_b; apart = is_e }
    by true true true is_a is_b is_e none = cc
    by true false e is_a is_b is_e none = cc
    by false b e is_a is_b is_e none = cc

-- Lists

pub mapped_hit : (make : ℕ → Thing) (q : Thing → Bool) (xs : List ℕ) (d : ℕ) → has xs d ≡ true → q (make d) ≡ true → list_any q (map make xs) ≡ true
mapped_hit make q [] d there is = cc
mapped_hit make q (x ∷ xs) d there is = elim (or_cases (nat_eq d x) (has xs d) there) [
  | inl here ↦ or_left (q (make x)) _ (subst (λ (y : ℕ). q (make y) ≡ true) (eqb-true d x here) is)
  | inr more ↦ or_right (q (make x)) _ (mapped_hit make q xs d more is)
]

-- hops that do not lead to a device are hit by other things
pub hit_besides : (p q : Thing → Bool) (d : ℕ) (hs : List Hop) → has (map (λ hop. hop.parent) hs) d ≡ false
    → ((l : ℕ) → p (thing.Link l) ≡ true → q (thing.Link l) ≡ true)
    → ((x : ℕ) → nat_eq d x ≡ false → p (thing.Device x) ≡ true → q (thing.Device x) ≡ true)
    → list_any p (things_of hs) ≡ true → list_any q (things_of hs) ≡ true
hit_besides p q d [] apart link device is = is
hit_besides p q d (h ∷ hs) apart link device is =
    let (here, rest) = or_parts (nat_eq d h.parent) (has (map (λ hop. hop.parent) hs) d) apart in
    elim (or_cases (p (thing.Link h.link)) _ is) [
      | inl one ↦ or_left (q (thing.Link h.link)) _ (link h.link one)
      | inr more ↦ or_right (q (thing.Link h.link)) _ (elim (or_cases (p (thing.Device h.parent)) _ more) [
        | inl two ↦ or_left (q (thing.Device h.parent)) (list_any q (things_of hs)) (device h.parent here two)
        | inr behind ↦ or_right (q (thing.Device h.parent)) (list_any q (things_of hs)) (hit_besides p q d hs rest link device behind)
      ])
    ]

-- numbers of which one is hit, by fewer things and by more
mapped_more : (make : ℕ → Thing) (p q : Thing → Bool) (xs : List ℕ) → ((x : ℕ) → has xs x ≡ true → p (make x) ≡ true → q (make x) ≡ true)
    → list_any p (map make xs) ≡ true → list_any q (map make xs) ≡ true
mapped_more make p q [] each is = is
mapped_more make p q (x ∷ xs) each is = elim (or_cases (p (make x)) _ is) [
  | inl one ↦ or_left (q (make x)) _ (each x (or_left (nat_eq x x) (has xs x) (eq-eqb x x refl)) one)
  | inr more ↦ or_right (q (make x)) _ (mapped_more make p q xs (λ y there. each y (or_right (nat_eq y x) (has xs y) there)) more)
]

-- what is hit of hops is a device to which one leads, or a link of them; what is not kept is not hit
hops_hit : (down : Thing → Bool) (keep : ℕ → Bool) (hs : List Hop) → ((x : ℕ) → keep x ≡ false → down (thing.Device x) ≡ false)
    → list_any down (things_of hs) ≡ true
    → (list_any down (map thing.Device (filter keep (map (λ hop. hop.parent) hs))) ≡ true) ⊎ (list_any down (map thing.Link (links_of hs)) ≡ true)
hops_hit down keep [] spared is = cc
hops_hit down keep (h ∷ hs) spared is = elim (or_cases (down (thing.Link h.link)) _ is) [
  | inl link ↦ inr (or_left (down (thing.Link h.link)) _ link)
  | inr more ↦ elim (or_cases (down (thing.Device h.parent)) _ more) [
    | inl device ↦ inl (here (keep h.parent) refl device)
    | inr behind ↦ elim (hops_hit down keep hs spared behind) [
      | inl device ↦ inl (beside (keep h.parent) device)
      | inr link ↦ inr (or_right (down (thing.Link h.link)) _ link)
    ]
  ]
]
  where
    here : (b : Bool) → keep h.parent ≡ b → down (thing.Device h.parent) ≡ true
        → list_any down (map thing.Device (if b then h.parent ∷ filter keep (map (λ hop. hop.parent) hs)
        else filter keep (map (λ hop. hop.parent) hs))) ≡ true
    here true is_kept device = or_left (down (thing.Device h.parent)) _ device
    here false is_kept device = absurd (both_ways (down (thing.Device h.parent)) (spared h.parent is_kept) device)

    beside : (b : Bool) → list_any down (map thing.Device (filter keep (map (λ hop. hop.parent) hs))) ≡ true
        → list_any down (map thing.Device (if b then h.parent ∷ filter keep (map (λ hop. hop.parent) hs)
        else filter keep (map (λ hop. hop.parent) hs))) ≡ true
    beside true device = or_right (down (thing.Device h.parent)) _ device
    beside false device = device

module _ (net : Network) (plan : Plan) (fits : Fits net plan) (structured : structure_breach net plan ≡ None) (f : DomainId) where
  -- the domain without the root, and without both
  abbrev rootless : Thing → Bool
  rootless = holds_besides net f (plan.root ∷ [])

  abbrev down : Thing → Bool
  down = holds_besides net f (both_roots plan)

  forest : IsForest net plan
  forest = forest_of net plan fits structured

  two : HasRoots plan
  two = has_roots net plan structured

  -- a device of the domain that is neither root
  down_device : (d : ℕ) → holds_device net f d ≡ true → is_root plan d ≡ false → is_backup_root plan d ≡ false → down (thing.Device d) ≡ true
  down_device d held other ordinary =
      let none : has (both_roots plan) d ≡ false =
      or_from (nat_eq d plan.root) (nat_eq d plan.backup_root || false) (unequal_swap plan.root d other)
      (or_from (nat_eq d plan.backup_root) false (unequal_swap plan.backup_root d ordinary) refl) in
      and_from (holds_device net f d) (not (has (both_roots plan) d)) held (ap not none)

  -- the backup root is not on its own path
  pub not_on_path : has (map (λ hop. hop.parent) (walk net plan plan.backup_root)) plan.backup_root ≡ false
  not_on_path =
      let (hop, primary) = forest.hop plan.backup_root fits.backup_root two.backup_root two.apart in
      let step : IsStep net plan plan.backup_root hop = forest.up plan.backup_root hop fits.backup_root primary in
      ap (λ (hs : List Hop). has (map (λ h. h.parent) hs) plan.backup_root) step.walk ∙ not_above net plan forest plan.backup_root hop step

  -- what is hit without the root, and is not the backup root, is hit without both
  rootless_down : (d : ℕ) → is_backup_root plan d ≡ false → rootless (thing.Device d) ≡ true → down (thing.Device d) ≡ true
  rootless_down d ordinary is =
      let (held, spared) = and_parts (holds_device net f d) (not (has (plan.root ∷ []) d)) is in
      down_device d held (unequal_swap d plan.root (or_parts (nat_eq d plan.root) false (not-true (has (plan.root ∷ []) d) spared)).0) ordinary

  pub path_taken : list_any rootless (path net plan plan.backup_root) ≡ true → list_any down (path net plan plan.backup_root) ≡ true
  path_taken hit = hit_besides rootless down plan.backup_root (walk net plan plan.backup_root) not_on_path (λ l is. is) rootless_down hit

  -- the root does not fail
  root_spared : (d : ℕ) → not (is_root plan d) ≡ false → down (thing.Device d) ≡ false
  root_spared d is =
      let same : d ≡ plan.root = sym (eqb-true plan.root d (not-false (is_root plan d) is)) in
      and_right (holds_device net f d) (not (has (both_roots plan) d))
      (ap not (or_left (nat_eq d plan.root) (nat_eq d plan.backup_root || false) (eq-eqb d plan.root same)))

  -- a walk that comes through the backup root is hit where its path is
  abbrev Through : ℕ → Type 0
  Through d = on_walk net plan d plan.backup_root ≡ true → list_any down (path net plan d) ≡ true

  through : list_any down (path net plan plan.backup_root) ≡ true → (d : ℕ) → d < length net.devices → Through d
  through hit =
      climb net plan forest Through
      (λ d within none on. itself d (sym (on_top net plan d plan.backup_root (forest.top d none)) ∙ on))
      (λ d hop within is step more on. elim (or_cases (nat_eq plan.backup_root d) (on_walk net plan hop.parent plan.backup_root)
      (sym (on_up net plan d plan.backup_root hop step.walk) ∙ on)) [
        | inl same ↦ itself d same
        | inr above ↦ (ap (λ (hs : List Hop). list_any down (things_of hs)) step.walk
            ∙ or_right (down (thing.Link hop.link)) _ (or_right (down (thing.Device hop.parent)) _ (more above)))
      ])
    where
      itself : (d : ℕ) → nat_eq plan.backup_root d ≡ true → list_any down (path net plan d) ≡ true
      itself d same = subst (λ (y : ℕ). list_any down (path net plan y) ≡ true) (eqb-true plan.backup_root d same) hit

  -- the devices of the walk from a backup parent, without the root
  abbrev kept : Hop → List ℕ
  kept hop = filter (λ y. not (is_root plan y)) (devices_of hop.parent (walk net plan hop.parent))

  abbrev fallen : Option Hop → List Thing
  fallen o = map thing.Device (map_or o [] kept) ++ map thing.Link (map_or o [] (λ hop. hop.link ∷ links_of (walk net plan hop.parent)))

  pub fallback_taken : list_any down (path net plan plan.backup_root) ≡ true → list_any rootless (fallback net plan) ≡ true
      → list_any down (fallback net plan) ≡ true
  fallback_taken hit taken = by (backup_of plan plan.backup_root) taken
    where
      -- the walk from the backup parent comes through the backup root
      on : (hop : Hop) → on_walk net plan hop.parent plan.backup_root ≡ true → list_any down (fallen (Some hop)) ≡ true
      on hop is =
          let whole = through hit hop.parent (on_inside net plan forest hop.parent plan.backup_root fits.backup_root is) is in
          list_any-append down (map thing.Device (kept hop)) (map thing.Link (hop.link ∷ links_of (walk net plan hop.parent)))
          ∙ elim (hops_hit down (λ y. not (is_root plan y)) (walk net plan hop.parent) root_spared whole) [
            | inl device ↦ or_left (list_any down (map thing.Device (kept hop))) _ (first_too (not (is_root plan hop.parent)) device)
            | inr link ↦ or_right (list_any down (map thing.Device (kept hop))) _ (or_right (down (thing.Link hop.link)) _ link)
          ]
        where
          first_too : (b : Bool) → list_any down (map thing.Device (filter (λ y. not (is_root plan y)) (map (λ h. h.parent) (walk net plan hop.parent)))) ≡ true
              → list_any down (map thing.Device (if b then hop.parent ∷ filter (λ y. not (is_root plan y)) (map (λ h. h.parent) (walk net plan hop.parent))
              else filter (λ y. not (is_root plan y)) (map (λ h. h.parent) (walk net plan hop.parent)))) ≡ true
          first_too true device = or_right (down (thing.Device hop.parent)) _ device
          first_too false device = device

      -- or not
      off : (hop : Hop) → on_walk net plan hop.parent plan.backup_root ≡ false → list_any rootless (fallen (Some hop)) ≡ true
          → list_any down (fallen (Some hop)) ≡ true
      off hop is some =
          list_any-append down (map thing.Device (kept hop)) (map thing.Link (hop.link ∷ links_of (walk net plan hop.parent)))
          ∙ elim (or_cases (list_any rootless (map thing.Device (kept hop))) _
          (sym (list_any-append rootless (map thing.Device (kept hop)) (map thing.Link (hop.link ∷ links_of (walk net plan hop.parent)))) ∙ some)) [
            | inl device ↦ or_left (list_any down (map thing.Device (kept hop))) _
                (mapped_more thing.Device rootless down (kept hop) (λ x there. rootless_down x (ordinary x there)) device)
            | inr link ↦ or_right (list_any down (map thing.Device (kept hop))) _
                (mapped_more thing.Link rootless down (hop.link ∷ links_of (walk net plan hop.parent)) (λ l there held. held) link)
          ]
        where
          ordinary : (x : ℕ) → has (kept hop) x ≡ true → is_backup_root plan x ≡ false
          ordinary x there =
              false_from_ne_true (is_backup_root plan x) (λ same. both_ways (on_walk net plan hop.parent plan.backup_root) is
              (subst (λ (y : ℕ). on_walk net plan hop.parent y ≡ true) (sym (eqb-true plan.backup_root x same))
              (kept_has (λ y. not (is_root plan y)) (devices_of hop.parent (walk net plan hop.parent)) x there).0))

      by : (o : Option Hop) → list_any rootless (fallen o) ≡ true → list_any down (fallen o) ≡ true
      by None some = cc
      by (Some hop) some = elim (cases_Bool (on_walk net plan hop.parent plan.backup_root)) [
        | inl is ↦ on hop is
        | inr is ↦ off hop is some
      ]

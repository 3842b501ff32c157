-- What the checker shows of a plan that it refuses for its roots: a domain that takes path and fallback of the backup root.
use Rattle.std.specs.Prelude.{◌≡◌, ℕ, Bool, true, false, ◌&&◌, ◌||◌, not, [], ◌∷◌, length, filter, find, map, nat_eq, Option, Some, None, option_map, refl, if◌then◌else◌}
use Rattle.std.specs.List.{list_any}
use Rattle.std.specs.Option.{option_or}
use Rattle.std.proofs.Common.{sym, ap, ◌∙◌, subst, inl, inr}
use Rattle.std.proofs.lemmas.Bool.{and_parts, and_from, or_cases, or_from, or_left, or_right, eqb-true, both_ways, not-true, false_from_ne_true}
use Rattle.std.proofs.lemmas.List.Folds.{list_any-append}
use Rattle.sd_num.specs.Lists.{has, map_or}
use Rattle.sd_plan.specs.topo.Network.{Network, device_numbers, link_numbers}
use Rattle.sd_plan.specs.declared.topo.Thing.{Thing}
use Rattle.sd_plan.specs.declared.topo.Thing.TheVariants as thing
use Rattle.sd_plan.specs.domain.Domains.{holds, holds_device, holds_link, hits}
use Rattle.sd_plan.specs.declared.domain.DomainId.{DomainId}
use Rattle.sd_plan.specs.declared.Hop.{Hop}
use Rattle.sd_plan.specs.declared.Plan.{Plan}
use Rattle.sd_plan.specs.Plans.{Fits, is_root, backup_of}
use Rattle.sd_plan.specs.Walks.{walk, path, devices_of}
use Rattle.sd_plan.specs.Structure.{structure_breach}
use Rattle.sd_checker.specs.check_root.Roots.{fallback_devices, fallback_links, fallback_breach, root_breach}
use Rattle.sd_checker.specs.Conditions as condition
use Rattle.sd_plan.proofs.Numbered.{found_passes}
use Rattle.sd_num.proofs.Shared.{unequal_swap}
use Rattle.sd_beside.specs.needed.Alone.{holds_besides}
use Rattle.sd_beside.specs.needed.Roots.{fallback, TakesBoth, RootRefusalIsRight, RefusalBesidesRootIsRight}
use Rattle.sd_beside.proofs.needed.Elements.{kept_has}
use Rattle.sd_beside.proofs.needed.Rings.{domain_is}
use Rattle.sd_beside.proofs.needed.Taken.{mapped_hit, hit_besides, not_on_path}
use Rattle.sd_beside.proofs.needed.Roots.{root_is_needed}

module _ (net : Network) (plan : Plan) (f : DomainId) (x : Thing) (shown : root_breach net plan f ≡ Some x)
    (apart : (holds_device net f plan.root && holds_device net f plan.backup_root) ≡ false) where
  -- the domain without the root
  abbrev rootless : Thing → Bool
  rootless = holds_besides net f (plan.root ∷ [])

  rootless_device : (d : ℕ) → holds_device net f d ≡ true → is_root plan d ≡ false → rootless (thing.Device d) ≡ true
  rootless_device d held other =
      and_from (holds_device net f d) (not (has (plan.root ∷ []) d)) held (ap not (or_from (nat_eq d plan.root) false (unequal_swap plan.root d other) refl))

  -- what the checker shows
  taken : (hits net f (path net plan plan.backup_root) ≡ true) × (fallback_breach net plan f ≡ Some x)
  taken = by (hits net f (path net plan plan.backup_root)) refl
      (ap (λ (b : Bool). if b then Some (thing.Device plan.backup_root)
      else if hits net f (path net plan plan.backup_root) then fallback_breach net plan f else None) (sym apart) ∙ shown)
    where
      by : (b : Bool) → hits net f (path net plan plan.backup_root) ≡ b → (if b then fallback_breach net plan f else None) ≡ Some x
          → (hits net f (path net plan plan.backup_root) ≡ true) × (fallback_breach net plan f ≡ Some x)
      by true is shown' = (is, shown')
      by false is shown' = cc

  -- the root is not of the fallback
  not_root_of : (d : ℕ) → (o : Option Hop) → backup_of plan plan.backup_root ≡ o
      → has (map_or o [] (λ hop. filter (λ y. not (is_root plan y)) (devices_of hop.parent (walk net plan hop.parent)))) d ≡ true → is_root plan d ≡ false
  not_root_of d None backup there = cc
  not_root_of d (Some hop) backup there =
      not-true (is_root plan d) (kept_has (λ y. not (is_root plan y)) (devices_of hop.parent (walk net plan hop.parent)) d there).1

  takes_fallback : list_any rootless (fallback net plan) ≡ true
  takes_fallback =
      list_any-append rootless (map thing.Device (fallback_devices net plan)) (map thing.Link (fallback_links net plan))
      ∙ by (find (λ d. holds_device net f d && has (fallback_devices net plan) d) (device_numbers net))
      (find (λ l. holds_link net f l && has (fallback_links net plan) l) (link_numbers net)) refl refl taken.1
    where
      by : (one other : Option ℕ) → find (λ d. holds_device net f d && has (fallback_devices net plan) d) (device_numbers net) ≡ one
          → find (λ l. holds_link net f l && has (fallback_links net plan) l) (link_numbers net) ≡ other
          → option_or (option_map thing.Device one) (option_map thing.Link other) ≡ Some x
          → (list_any rootless (map thing.Device (fallback_devices net plan)) || list_any rootless (map thing.Link (fallback_links net plan))) ≡ true
      by (Some d) other is_one is_other shown' =
          let it = found_passes (λ y. holds_device net f y && has (fallback_devices net plan) y) (length net.devices) d is_one in
          let (held, there) = and_parts (holds_device net f d) (has (fallback_devices net plan) d) it.1 in
          let other = not_root_of d (backup_of plan plan.backup_root) refl there in
          or_left (list_any rootless (map thing.Device (fallback_devices net plan))) _
          (mapped_hit thing.Device rootless (fallback_devices net plan) d there (rootless_device d held other))
      by None (Some l) is_one is_other shown' =
          let it = found_passes (λ y. holds_link net f y && has (fallback_links net plan) y) (length net.links) l is_other in
          let (held, there) = and_parts (holds_link net f l) (has (fallback_links net plan) l) it.1 in
          or_right (list_any rootless (map thing.Device (fallback_devices net plan))) _ (mapped_hit thing.Link rootless (fallback_links net plan) l there held)
      by None None is_one is_other shown' = cc

  pub takes_both : list_any rootless (path net plan plan.backup_root) ≡ true → TakesBoth net plan f
  takes_both hit = record { path = hit; fallback = takes_fallback }

  -- where the domain has not the root, what it hits it hits without it
  pub hit_without : Fits net plan → structure_breach net plan ≡ None → holds_device net f plan.root ≡ false
      → list_any rootless (path net plan plan.backup_root) ≡ true
  hit_without fits structured none =
      hit_besides (holds net f) rootless plan.backup_root (walk net plan plan.backup_root)
      (not_on_path net plan fits structured f) (λ l is. is)
      (λ d ordinary held. and_from (holds_device net f d) (not (has (plan.root ∷ []) d)) held
      (ap not (false_from_ne_true (has (plan.root ∷ []) d) (λ there.
      elim (or_cases (nat_eq d plan.root) false there) [
        | inl same ↦ both_ways (holds_device net f d) (subst (λ (y : ℕ). holds_device net f y ≡ false) (sym (eqb-true d plan.root same)) none) held
        | inr never ↦ cc
      ])))) taken.0

pub root_refusal_is_right : (net : Network) (plan : Plan) → RootRefusalIsRight net plan
root_refusal_is_right net plan law fits bound f x broken not_both hit =
    root_is_needed net plan law fits (broken.before condition.structure refl) (broken.before condition.timing refl) bound f
    (domain_is net (broken.shows.0.0) f broken.shows.0.1)
    (takes_both net plan f x broken.shows.1
    (not-true (holds_device net f plan.root && holds_device net f plan.backup_root) not_both) hit)

pub refusal_besides_root_is_right : (net : Network) (plan : Plan) → RefusalBesidesRootIsRight net plan
refusal_besides_root_is_right net plan law fits bound f x broken not_root =
    let none : holds_device net f plan.root ≡ false = not-true (holds_device net f plan.root) not_root in
    let apart : (holds_device net f plan.root && holds_device net f plan.backup_root) ≡ false = rw none refl in
    root_refusal_is_right net plan law fits bound f x broken (ap not apart)
    (hit_without net plan f x broken.shows.1 apart fits (broken.before condition.structure refl) none)

-- A table copied entry by entry.
use Rattle.std.proofs.Common.{◌≡◌, ℕ, zero, suc, false, List, [], ◌∷◌, ◌++◌, map, take, Some, String, Global, string_bytes, refl, ap, sym, ◌∙◌, subst}
use Rattle.std.specs.List.{list_any, AllZip, IsDistinct, AllByRecursion, slice_get}
use Rattle.std.specs.Str.{bytes_eq}
use Rattle.std.specs.Map.{keys_of}
use Rattle.sd_plan.specs.declared.topo.parts.Station.{Station}
use Rattle.sd_plan.specs.declared.topo.parts.Group.{Group}
use Rattle.sd_plan.specs.declared.topo.LinkEntry.{LinkEntry}
use Rattle.sd_plan.specs.topo.Seen.{device_seen, link_seen, domain_seen, network_seen}
use Rattle.sd_plan.specs.declared.topo.parts.Parts.{Parts}
use Rattle.indexmap.specs.IndexMap.{IndexMap}
use Rattle.std.specs.Prelude.{Vec}
use Rattle.sd_plan.specs.declared.topo.seed.TextSeed.{TextSeed}
use Rattle.sd_plan.specs.topo.Copies.{IsCopy}
use Rattle.sd_plan.proofs.topo.Lists.{names_equal}
use Rattle.sd_plan.proofs.topo.Adding.{same_string}

module _ {V : Type 0} (same : V → V → Type 0) where
  -- what holds of each key holds of the key at a place
  key_at : (P : String Global → Type 0) (es : List (String Global × V)) (i : ℕ) (e : String Global × V) → AllByRecursion P (keys_of es)
      → slice_get es i ≡ Some e → P e.0
  key_at P [] i e all at = cc
  key_at P (x ∷ es) zero e all at = let is : x ≡ e = cc in subst (λ (y : String Global × V). P y.0) is all.0
  key_at P (x ∷ es) (suc i) e all at = key_at P es i e all.1 at

  -- the name at a place is none of those copied before
  pub new_name : (es cs : List (String Global × V)) (i : ℕ) (e : String Global × V) → IsDistinct same_string (keys_of es) → slice_get es i ≡ Some e
      → AllZip (IsCopy same) (take i es) cs
      → list_any (bytes_eq (string_bytes e.0)) (map string_bytes (keys_of cs)) ≡ false
  unfolding IsDistinct
  new_name [] cs i e apart at copied = cc
  new_name (x ∷ es) [] i e apart at copied = refl
  new_name (x ∷ es) (c ∷ cs) zero e apart at copied = absurd copied
  new_name (x ∷ es) (c ∷ cs) (suc i) e apart at copied =
      let other : bytes_eq (string_bytes x.0) (string_bytes e.0) ≡ false = key_at (λ y. same_string x.0 y ≡ false) es i e apart.0 at in
      let first : bytes_eq (string_bytes e.0) (string_bytes c.0) ≡ false =
      ap (bytes_eq (string_bytes e.0)) copied.0.0 ∙ names_equal.symm (string_bytes e.0) (string_bytes x.0) ∙ other in
      let rest : list_any (bytes_eq (string_bytes e.0)) (map string_bytes (keys_of cs)) ≡ false = new_name es cs i e apart.1 at copied.1 in
      rw (first, rest) refl

  -- one more entry is copied
  pub copied_more : (es cs : List (String Global × V)) (i : ℕ) (e c : String Global × V) → slice_get es i ≡ Some e → AllZip (IsCopy same) (take i es) cs
      → IsCopy same e c
      → AllZip (IsCopy same) (take (suc i) es) (cs ++ c ∷ [])
  copied_more [] cs i e c at copied one = cc
  copied_more (x ∷ es) [] zero e c at copied one = let is : x ≡ e = cc in (subst (λ (y : String Global × V). IsCopy same y c) (sym is) one, tt)
  copied_more (x ∷ es) [] (suc i) e c at copied one = absurd copied
  copied_more (x ∷ es) (b ∷ cs) zero e c at copied one = absurd copied
  copied_more (x ∷ es) (b ∷ cs) (suc i) e c at copied one = (copied.0, copied_more es cs i e c at copied.1 one)

-- copies stand for the same devices
pub same_devices : (es cs : List (String Global × Station)) → AllZip (IsCopy (λ a b. b ≡ a)) es cs → map device_seen cs ≡ map device_seen es
same_devices [] [] copied = refl
same_devices [] (c ∷ cs) copied = absurd copied
same_devices (e ∷ es) [] copied = absurd copied
same_devices (e ∷ es) (c ∷ cs) copied =
    let first : device_seen c ≡ device_seen e = rw (copied.0.0, copied.0.1) refl in
    rw (first, same_devices es cs copied.1) refl

-- the same links
pub same_links : (es cs : List (String Global × LinkEntry)) → AllZip (IsCopy (λ a b. b ≡ a)) es cs → map link_seen cs ≡ map link_seen es
same_links [] [] copied = refl
same_links [] (c ∷ cs) copied = absurd copied
same_links (e ∷ es) [] copied = absurd copied
same_links (e ∷ es) (c ∷ cs) copied =
    let first : link_seen c ≡ link_seen e = rw (copied.0.0, copied.0.1) refl in
    rw (first, same_links es cs copied.1) refl

-- and the same domains
pub same_domains : (es cs : List (String Global × Group)) → AllZip (IsCopy (λ a b. (b.devices.items ≡ a.devices.items) × (b.links.items ≡ a.links.items))) es cs
    → map domain_seen cs ≡ map domain_seen es
same_domains [] [] copied = refl
same_domains [] (c ∷ cs) copied = absurd copied
same_domains (e ∷ es) [] copied = absurd copied
same_domains (e ∷ es) (c ∷ cs) copied =
    let first : domain_seen c ≡ domain_seen e = rw (copied.0.0, copied.0.1.0, copied.0.1.1) refl in
    rw (first, same_domains es cs copied.1) refl

-- copied parts stand for the same network
pub copied_network : (t : Parts) (devices : IndexMap (String Global) Station TextSeed) (links : IndexMap (String Global) LinkEntry TextSeed)
    (domains : IndexMap (String Global) Group TextSeed) (roots : Vec ℕ Global)
    → AllZip (IsCopy (λ a b. b ≡ a)) t.devices.entries devices.entries → AllZip (IsCopy (λ a b. b ≡ a)) t.links.entries links.entries
    → AllZip (IsCopy (λ a b. (b.devices.items ≡ a.devices.items) × (b.links.items ≡ a.links.items))) t.domains.entries domains.entries
    → roots.items ≡ t.roots.items
    → network_seen (record t { devices = devices; links = links; domains = domains; roots = roots }) ≡ network_seen t
copied_network t devices links domains roots on_devices on_links on_domains on_roots =
    rw (
      same_devices t.devices.entries devices.entries on_devices,
      same_links t.links.entries links.entries on_links,
      same_domains t.domains.entries
          domains.entries on_domains,
      on_roots,
    ) refl

-- Each domain of a topology with less slack is one of the topology before, with the same things.
use Rattle.std.specs.Prelude.{◌≡◌, ℕ, zero, suc, ◌<◌, false, List, [], ◌∷◌, ◌++◌, length, map, get_or, nat_eq, Option, Some}
use Rattle.std.specs.List.{AllZip, Contains}
use Rattle.std.proofs.Common.{arith, refl, sym, ap, ◌∙◌, subst, inl, inr}
use mathlib.Core.Path.{fun_ext}
use Rattle.std.proofs.lemmas.List.Elements.{length_all_zip, Contains-append_left, Contains-append_right, Contains-append_cases}
use Rattle.std.proofs.lemmas.Option.{slice_get-get_or, slice_get_within, get_or_from_slice_get}
use Rattle.sd_num.specs.Lists.{below, has, map_or, at_place}
use Rattle.sd_plan.specs.topo.Network.{Network, Link, Domain, Each, no_link, link_of, joins}
use Rattle.sd_plan.specs.topo.Places.{no_domain}
use Rattle.sd_plan.specs.declared.topo.LinkEntry.{LinkEntry}
use Rattle.sd_plan.specs.domain.Domains.{domains}
use Rattle.sd_plan.specs.declared.domain.DomainId.{DomainId}
use Rattle.sd_plan.specs.declared.domain.DomainId.TheVariants as domain
use Rattle.sd_plan.proofs.Numbered.{length-numbered, get_or-numbered}
use Rattle.sd_drill.proofs.Circles.{named}
use Rattle.sd_bound.specs.slack.Tighter.{IsTighterEntry, IsTighterDevice, IsTighterLink, IsTighter, IsSameDomain}
use Rattle.sd_bound.proofs.slack.Alike.{HasShape, HasThings}

-- Links

pub entry_same : (entry : LinkEntry) → IsTighterEntry entry entry
entry_same entry = record { end_a = refl; end_b = refl; delay = (omega arith, omega arith); back_delay = (omega arith, omega arith) }

pub entries : (xs ys : List Link) → AllZip IsTighterLink xs ys → (l : ℕ)
    → IsTighterEntry (at_place xs l no_link (λ link. link.entry)) (at_place ys l no_link (λ link. link.entry))
entries [] [] zip l = entry_same no_link
entries [] (y ∷ ys) zip l = absurd zip
entries (x ∷ xs) [] zip l = absurd zip
entries (x ∷ xs) (y ∷ ys) zip zero = zip.0.entry
entries (x ∷ xs) (y ∷ ys) zip (suc l) = entries xs ys zip.1 l

-- Lists of domains

numbered_as : {X : Type 0} (f : ℕ → X) (n : ℕ) (x : X) → Contains (map f (below n)) x → (k : ℕ) × (k < n) × (f k ≡ x)
numbered_as f n x (k, within, is) =
    let inside : k < n = omega (arith, within, length-numbered f n) in
    (k, inside, sym (get_or-numbered f n k x inside) ∙ is)

-- each element of a list meets P
pub each_from : {A : Type 0} (P : A → Type 0) (xs : List A) → ((x : A) → Contains xs x → P x) → Each P xs
each_from P xs all i x at = all x (i, slice_get_within xs i x at, get_or_from_slice_get xs i x x at)

pub one_of : {A : Type 0} (P : A → Type 0) (xs : List A) (x : A) → Each P xs → Contains xs x → P x
one_of P xs x each (k, within, is) = each k x (slice_get-get_or xs k x within ∙ ap (λ y. Some y) is)

module _ (before after : Network) (tighter : IsTighter before after) where
  pub shape_of : HasShape before after
  shape_of =
      record {
        devices = length_all_zip IsTighterDevice before.devices after.devices tighter.devices;
        links = length_all_zip IsTighterLink before.links after.links tighter.links;
        depth = sym tighter.depth;
        joins = same;
      }
    where
      same : (l d e : ℕ) → joins before l d e ≡ joins after l d e
      same l d e =
          let entry = entries before.links after.links tighter.links l in
          let a : (link_of before l).end_a ≡ (link_of after l).end_a = sym entry.end_a in
          let b : (link_of before l).end_b ≡ (link_of after l).end_b = sym entry.end_b in
          rw (a, b) refl

  pub things_of : (f g : DomainId) → IsSameDomain before f after g → HasThings before f after g
  things_of (domain.Listed j) (domain.Listed k) (listed, at, also) =
      record {
        devices = fun_ext (λ d. ap (λ (o : Option Domain). map_or o false (λ listed'. has listed'.devices d)) (at ∙ sym also));
        links = fun_ext (λ l. ap (λ (o : Option Domain). map_or o false (λ listed'. has listed'.links l)) (at ∙ sym also));
      }
  things_of (domain.Device d) (domain.Device e) same = record { devices = fun_ext (λ x. ap (λ (n : ℕ). nat_eq n x) same); links = refl }
  things_of (domain.Link l) (domain.Link m) same = record { devices = refl; links = fun_ext (λ x. ap (λ (n : ℕ). nat_eq n x) same) }
  things_of (domain.Listed j) (domain.Device e) same = absurd same
  things_of (domain.Listed j) (domain.Link m) same = absurd same
  things_of (domain.Device d) (domain.Listed k) same = absurd same
  things_of (domain.Device d) (domain.Link m) same = absurd same
  things_of (domain.Link l) (domain.Listed k) same = absurd same
  things_of (domain.Link l) (domain.Device e) same = absurd same

  -- the domain before that a domain is
  abbrev pub WasThere : DomainId → Type 0
  WasThere g = (f : DomainId) × Contains (domains before) f × IsSameDomain before f after g

  abbrev listed_before : List DomainId
  listed_before = map domain.Listed (below (length before.domains))

  abbrev devices_before : List DomainId
  devices_before = map domain.Device (below (length before.devices))

  abbrev links_before : List DomainId
  links_before = map domain.Link (below (length before.links))

  listed_was : (k : ℕ) → k < length after.domains → WasThere (domain.Listed k)
  listed_was k within =
      let (j, inside, is) = tighter.domains k no_domain within in
      let listed = get_or after.domains k no_domain in (
        domain.Listed j,
        Contains-append_left (listed_before ++ devices_before) links_before (domain.Listed j)
            (Contains-append_left listed_before devices_before (domain.Listed j)
            (named domain.Listed (length before.domains) j inside)),
        (listed, slice_get-get_or before.domains j listed inside ∙ ap (λ (x : Domain). Some x) is, slice_get-get_or after.domains k no_domain within),
      )

  device_was : (d : ℕ) → d < length after.devices → WasThere (domain.Device d)
  device_was d within =
      let inside : d < length before.devices = omega (arith, within, shape_of.devices) in (
        domain.Device d,
        Contains-append_left (listed_before ++ devices_before) links_before (domain.Device d)
            (Contains-append_right listed_before devices_before (domain.Device d)
            (named domain.Device (length before.devices) d inside)),
        refl,
      )

  link_was : (l : ℕ) → l < length after.links → WasThere (domain.Link l)
  link_was l within =
      let inside : l < length before.links = omega (arith, within, shape_of.links) in (
        domain.Link l,
        Contains-append_right (listed_before ++ devices_before) links_before (domain.Link l)
            (named domain.Link (length before.links) l inside),
        refl,
      )

  pub was_there : (g : DomainId) → Contains (domains after) g → WasThere g
  was_there g some =
      let listed = map domain.Listed (below (length after.domains)) in
      let devices = map domain.Device (below (length after.devices)) in
      let links = map domain.Link (below (length after.links)) in
      elim (Contains-append_cases (listed ++ devices) links g some) [
        | inl first ↦ elim (Contains-append_cases listed devices g first) [
          | inl one ↦ (let (k, within, is) = numbered_as domain.Listed (length after.domains) g one in
              subst WasThere is (listed_was k within))
          | inr two ↦ (let (d, within, is) = numbered_as domain.Device (length after.devices) g two in
              subst WasThere is (device_was d within))
        ]
        | inr three ↦ (let (l, within, is) = numbered_as domain.Link (length after.links) g three in
            subst WasThere is (link_was l within))
      ]

-- The first domain of one thing alone that has all of some numbers of devices and links.
use Rattle.std.proofs.Common.{◌≡◌, ℕ, ◌<◌, ◌≤◌, Bool, true, false, ◌&&◌, List, [], ◌∷◌, length, get_or, map, find, nat_eq, nat_lt, Option, Some, None, refl, sym, ap, ◌∙◌, inl, inr, arith}
use Rattle.std.specs.List.{IsDistinct, list_all}
use Rattle.std.specs.Option.{option_map, option_or}
use Rattle.std.specs.Bool.{then_some}
use Rattle.std.specs.FinSet as set
use Rattle.std.proofs.lemmas.Bool.{cases_lt, eq-eqb, ne_eqb, eqb-true, eqb-false, lt-ltb, le-ltb, false_from_ne_true, and_parts, and_right}
use Rattle.std.proofs.lemmas.List.Folds.{find-append}
use Rattle.std.proofs.lemmas.Map.Keys.{apart_from_distinct}
use Rattle.sd_num.specs.Lists.{below}
use Rattle.sd_plan.specs.topo.Network.{Network, device_numbers, link_numbers}
use Rattle.sd_plan.specs.domain.Domains.{holds}
use Rattle.sd_plan.specs.domain.Lone.{alone}
use Rattle.sd_plan.specs.declared.domain.DomainId.{DomainId}
use Rattle.sd_plan.specs.declared.domain.DomainId.TheVariants as domain
use Rattle.sd_plan.specs.domain.Failures.{FailedThings}
use Rattle.sd_plan.specs.domain.Within.{has_all}
use Rattle.sd_plan.proofs.domain.Things.{list_all-things}
use Rattle.sd_num.proofs.Firsts.{find_none, find_below_none, find_below_here, find-map}

-- all of the numbers are this one
abbrev are_all : List ℕ → ℕ → Bool
are_all numbers n = list_all (nat_eq n) numbers

-- there are no numbers
abbrev are_none : List ℕ → Bool
are_none numbers = list_all (λ n. false) numbers

-- the first of n devices, else of m links, that is all of the numbers
abbrev first_of : ℕ → ℕ → List ℕ → List ℕ → Option DomainId
first_of n m devices links =
    option_or (option_map domain.Device (find (λ e. are_all devices e && are_none links) (below n)))
    (option_map domain.Link (find (λ l. are_none devices && are_all links l) (below m)))

-- the first domain of one thing that has all that has failed is that of the listed numbers
find-alone : (net : Network) (failed : FailedThings) (devices links : List ℕ) → set.from_list devices ≡ failed.devices → set.from_list links ≡ failed.links
    → find (has_all net failed) (alone net) ≡ first_of (length net.devices) (length net.links) devices links
find-alone net failed devices links devices_are links_are =
    find-append (has_all net failed) (map domain.Device (device_numbers net)) (map domain.Link (link_numbers net))
    ∙ (λ i. option_or (find-map domain.Device (has_all net failed) (device_numbers net) i) (find-map domain.Link (has_all net failed) (link_numbers net) i))
    ∙ (λ i. option_or
    (option_map domain.Device (find (λ e. list_all-things (holds net (domain.Device e)) failed devices links devices_are links_are i) (device_numbers net)))
    (option_map domain.Link (find (λ l. list_all-things (holds net (domain.Link l)) failed devices links devices_are links_are i) (link_numbers net))))

-- the first of n numbers that is x
find_only : (test : ℕ → Bool) (n x : ℕ) → ((e : ℕ) → (e ≡ x → ⊥) → test e ≡ false) → test x ≡ true → find test (below n) ≡ then_some (nat_lt x n) x
find_only test n x others itself =
    elim (cases_lt x n) [
      | inl within ↦ rw (lt-ltb x n within) (find_below_here test x n within (find_below_none test x (λ e before. others e (λ same. omega arith))) itself)
      | inr beyond ↦ rw (le-ltb x n beyond) (find_below_none test n (λ e before. others e (λ same. omega arith)))
    ]

-- of nothing it is the first device
first_of-nothing : (n m : ℕ) (devices links : List ℕ) → 0 < n → length devices < 1 → length links < 1 → first_of n m devices links ≡ Some (domain.Device 0)
first_of-nothing n m [] [] some no_devices no_links =
    ap (λ first. option_or (option_map domain.Device first) (option_map domain.Link (find (λ l. true) (below m))))
    (find_below_here (λ e. true) 0 n some refl refl)
first_of-nothing n m [] (l ∷ links) some no_devices no_links = absurd (omega arith)
first_of-nothing n m (d ∷ devices) links some no_devices no_links = absurd (omega arith)

-- of one device it is this, if it is one of the n
first_of-device : (n m : ℕ) (devices links : List ℕ) → length devices ≡ 1 → length links < 1
    → first_of n m devices links ≡ then_some (nat_lt (get_or devices 0 0) n) (domain.Device (get_or devices 0 0))
first_of-device n m [] links one none = absurd (omega arith)
first_of-device n m (d ∷ e ∷ devices) links one none = absurd (omega arith)
first_of-device n m (d ∷ []) (l ∷ links) one none = absurd (omega arith)
first_of-device n m (d ∷ []) [] one none =
    rw (
      find_only (λ e. are_all (d ∷ []) e && true) n d (λ e other. rw (ne_eqb e d other) refl) (rw (eq-eqb d d refl) refl),
      find_none (λ l. false) (below m)
          (λ l. refl),
    ) (by_side (nat_lt d n))
  where
    by_side : (b : Bool) → option_or (option_map domain.Device (then_some b d)) None ≡ then_some b (domain.Device d)
    by_side true = refl
    by_side false = refl

-- of one link it is this, if it is one of the m
first_of-link : (n m : ℕ) (devices links : List ℕ) → length devices < 1 → length links ≡ 1
    → first_of n m devices links ≡ then_some (nat_lt (get_or links 0 0) m) (domain.Link (get_or links 0 0))
first_of-link n m devices [] none one = absurd (omega arith)
first_of-link n m devices (l ∷ k ∷ links) none one = absurd (omega arith)
first_of-link n m (d ∷ devices) (l ∷ []) none one = absurd (omega arith)
first_of-link n m [] (l ∷ []) none one =
    rw (find_none (λ e. false) (below n) (λ e. refl), find_only (are_all (l ∷ [])) m l (λ k other. rw (ne_eqb k l other) refl) (rw (eq-eqb l l refl) refl))
    (by_side (nat_lt l m))
  where
    by_side : (b : Bool) → option_or None (option_map domain.Link (then_some b l)) ≡ then_some b (domain.Link l)
    by_side true = refl
    by_side false = refl

-- where no number is all of the numbers there is none
first_of-none : (n m : ℕ) (devices links : List ℕ) → ((e : ℕ) → (are_all devices e && are_none links) ≡ false)
    → ((l : ℕ) → (are_none devices && are_all links l) ≡ false) → first_of n m devices links ≡ None
first_of-none n m devices links no_device no_link =
    rw (find_none (λ e. are_all devices e && are_none links) (below n) no_device, find_none (λ l. are_none devices && are_all links l) (below m) no_link) refl

-- no number is all of two that differ
not_both : (numbers : List ℕ) (n : ℕ) → IsDistinct nat_eq numbers → 2 ≤ length numbers → are_all numbers n ≡ false
not_both [] n distinct two = absurd (omega arith)
not_both (x ∷ []) n distinct two = absurd (omega arith)
not_both (x ∷ y ∷ xs) n distinct two =
    false_from_ne_true (are_all (x ∷ y ∷ xs) n) (λ all.
    let first = and_parts (nat_eq n x) (nat_eq n y && are_all xs n) all in
    let second = and_parts (nat_eq n y) (are_all xs n) first.1 in
    eqb-false x y (apart_from_distinct nat_eq (x ∷ y ∷ xs) 0 1 0 distinct (omega arith) (omega arith)) (sym (eqb-true n x first.0) ∙ eqb-true n y second.0))

-- numbers are not none
not_none : (numbers : List ℕ) → 1 ≤ length numbers → are_none numbers ≡ false
not_none [] some = absurd (omega arith)
not_none (x ∷ xs) some = refl

-- of two devices there is none
first_of-devices : (n m : ℕ) (devices links : List ℕ) → IsDistinct nat_eq devices → 2 ≤ length devices → first_of n m devices links ≡ None
first_of-devices n m devices links distinct two =
    first_of-none n m devices links (λ e. rw (not_both devices e distinct two) refl) (λ l. rw (not_none devices (omega arith)) refl)

-- of two links there is none
first_of-links : (n m : ℕ) (devices links : List ℕ) → IsDistinct nat_eq links → 2 ≤ length links → first_of n m devices links ≡ None
first_of-links n m devices links distinct two =
    first_of-none n m devices links (λ e. and_right (are_all devices e) (are_none links) (not_none links (omega arith)))
    (λ l. and_right (are_none devices) (are_all links l) (not_both links l distinct two))

-- of a device and a link there is none
first_of-both : (n m : ℕ) (devices links : List ℕ) → 1 ≤ length devices → 1 ≤ length links → first_of n m devices links ≡ None
first_of-both n m devices links some_device some_link =
    first_of-none n m devices links (λ e. and_right (are_all devices e) (are_none links) (not_none links some_link))
    (λ l. rw (not_none devices some_device) refl)

-- What the first domain of one thing is that has all that has failed, by how many devices and links the lists have.
module _ (net : Network) (failed : FailedThings) (devices links : List ℕ) (devices_are : set.from_list devices ≡ failed.devices)
    (links_are : set.from_list links ≡ failed.links) where
  -- the first domain of one thing that has all that has failed
  abbrev pub first_alone : Option DomainId
  first_alone = find (has_all net failed) (alone net)

  -- in terms of the listed numbers
  by_numbers : first_alone ≡ first_of (length net.devices) (length net.links) devices links
  by_numbers = find-alone net failed devices links devices_are links_are

  -- of nothing
  pub alone-nothing : 0 < length net.devices → length devices < 1 → length links < 1 → first_alone ≡ Some (domain.Device 0)
  alone-nothing some no_devices no_links = by_numbers ∙ first_of-nothing (length net.devices) (length net.links) devices links some no_devices no_links

  -- of one device
  pub alone-device : length devices ≡ 1 → length links < 1
      → first_alone ≡ then_some (nat_lt (get_or devices 0 0) (length net.devices)) (domain.Device (get_or devices 0 0))
  alone-device one no_links = by_numbers ∙ first_of-device (length net.devices) (length net.links) devices links one no_links

  -- of one link
  pub alone-link : length devices < 1 → length links ≡ 1
      → first_alone ≡ then_some (nat_lt (get_or links 0 0) (length net.links)) (domain.Link (get_or links 0 0))
  alone-link no_devices one = by_numbers ∙ first_of-link (length net.devices) (length net.links) devices links no_devices one

  -- of more devices than one
  pub alone-devices : IsDistinct nat_eq devices → 2 ≤ length devices → first_alone ≡ None
  alone-devices distinct two = by_numbers ∙ first_of-devices (length net.devices) (length net.links) devices links distinct two

  -- of more links than one
  pub alone-links : IsDistinct nat_eq links → 2 ≤ length links → first_alone ≡ None
  alone-links distinct two = by_numbers ∙ first_of-links (length net.devices) (length net.links) devices links distinct two

  -- of devices and links
  pub alone-both : 1 ≤ length devices → 1 ≤ length links → first_alone ≡ None
  alone-both some_device some_link = by_numbers ∙ first_of-both (length net.devices) (length net.links) devices links some_device some_link

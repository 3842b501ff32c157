-- The list of the devices that a domain hits, by place.
use Rattle.std.proofs.Common.{◌≡◌, ℕ, zero, suc, ◌<◌, ◌≤◌, true, false, List, [], ◌∷◌, length, slice_get, Option, Some, None, MatchOption, is_some, All, get_or, inl, inr, ap, sym, subst, arith}
use Rattle.std.proofs.lemmas.Bool.{cases_lt, false_from_ne_true}
use Rattle.std.proofs.lemmas.List.Sums.{length-filter, count_by-le-length}
use Rattle.std.proofs.lemmas.List.Elements.{All-from_get_or}
use Rattle.std.proofs.lemmas.Option.{same_Some, slice_get-get_or}
use Rattle.sd_num.specs.Lists.{has, below}
use Rattle.sd_num.proofs.Places.{has_at, at_has, kept_parts, kept_from, has_below, below_has}
use Rattle.sd_plan.specs.topo.Network.{Network}
use Rattle.sd_plan.proofs.topo.Ascending.{Rises, rising}
use Rattle.sd_plan.specs.declared.domain.DomainId.{DomainId}
use Rattle.sd_plan.specs.declared.Plan.{Plan}
use Rattle.sd_plan.specs.Walks.{is_hit}
use Rattle.sd_plan.proofs.Numbered.{length-below}
use Rattle.sd_checker.specs.check_hit.Hit.{hit_by}
use Rattle.sd_checker.specs.check_hit.Places.{IsOnce}

-- what a rising list has further on is greater
low_at : (a : ℕ) (xs : List ℕ) (i x : ℕ) → Rises a xs → slice_get xs i ≡ Some x → a ≤ x
low_at a [] i x up at = cc
low_at a (y ∷ ys) zero x up at = let same : y ≡ x = same_Some y x at in omega (arith, up.0)
low_at a (y ∷ ys) (suc i) x up at = let more = low_at (suc y) ys i x up.1 at in omega (arith, up.0)

rises_at : (a : ℕ) (xs : List ℕ) (i j x y : ℕ) → Rises a xs → i < j → slice_get xs i ≡ Some x → slice_get xs j ≡ Some y → x < y
rises_at a [] i j x y up less at later = cc
rises_at a (z ∷ zs) i zero x y up less at later = absurd (omega arith)
rises_at a (z ∷ zs) zero (suc j) x y up less at later = let same : z ≡ x = same_Some z x at in let more = low_at (suc z) zs j y up.1 later in omega arith
rises_at a (z ∷ zs) (suc i) (suc j) x y up less at later = rises_at (suc z) zs i j x y up.1 (omega arith) at later

module _ (net : Network) (plan : Plan) (domain : DomainId) where
  -- each element is a device that is hit
  pub hit_at : (hit : List ℕ) (i d : ℕ) → hit ≡ hit_by net plan domain → slice_get hit i ≡ Some d → (is_hit net plan domain d ≡ true) × (d < length net.devices)
  hit_at hit i d is at =
      let parts : (is_hit net plan domain d ≡ true) × (has (below (length net.devices)) d ≡ true) =
      kept_parts (is_hit net plan domain) (below (length net.devices)) d
      (has_at (hit_by net plan domain) i d (subst (λ (xs : List ℕ). slice_get xs i ≡ Some d) is at)) in
      (parts.0, below_has (length net.devices) d parts.1)

  -- each device that is hit is an element
  pub at_hit : (hit : List ℕ) (d : ℕ) → hit ≡ hit_by net plan domain → d < length net.devices → is_hit net plan domain d ≡ true
      → (i : ℕ) × (slice_get hit i ≡ Some d)
  at_hit hit d is within hits =
      let place : (i : ℕ) × (slice_get (hit_by net plan domain) i ≡ Some d) =
      at_has (hit_by net plan domain) d
      (kept_from (is_hit net plan domain) (below (length net.devices)) d hits (has_below (length net.devices) d within)) in
      (place.0, subst (λ (xs : List ℕ). slice_get xs place.0 ≡ Some d) (sym is) place.1)

  -- they ascend
  pub hit_rises : (hit : List ℕ) (i j d e : ℕ) → hit ≡ hit_by net plan domain → i < j → slice_get hit i ≡ Some d → slice_get hit j ≡ Some e → d < e
  hit_rises hit i j d e is less at later =
      rises_at 0 (hit_by net plan domain) i j d e (rising (is_hit net plan domain) (length net.devices)).0 less
      (subst (λ (xs : List ℕ). slice_get xs i ≡ Some d) is at) (subst (λ (xs : List ℕ). slice_get xs j ≡ Some e) is later)

  -- a device that is at no place is not hit
  pub not_hit : (hit : List ℕ) (d : ℕ) → hit ≡ hit_by net plan domain → d < length net.devices → ((i : ℕ) → slice_get hit i ≡ Some d → ⊥)
      → is_hit net plan domain d ≡ false
  not_hit hit d is within none =
      false_from_ne_true (is_hit net plan domain d) (λ hits. let place : (i : ℕ) × (slice_get hit i ≡ Some d) = at_hit hit d is within hits in
      none place.0 place.1)

  -- whether there is a place tells whether a device is hit
  pub hit_by_place : (place : Option ℕ) (hit : List ℕ) (d : ℕ) → hit ≡ hit_by net plan domain
      → MatchOption place (is_hit net plan domain d ≡ false) (λ i. slice_get hit i ≡ Some d) → is_some place ≡ is_hit net plan domain d
  hit_by_place None hit d is none = sym none
  hit_by_place (Some i) hit d is at = sym (hit_at hit i d is at).0

  -- all of them are devices
  pub hit_within : (hit : List ℕ) → hit ≡ hit_by net plan domain → All (λ d. d < length net.devices) hit
  hit_within hit is = All-from_get_or (λ d. d < length net.devices) hit 0 (λ i within. (hit_at hit i (get_or hit i 0) is (slice_get-get_or hit i 0 within)).1)

  -- none comes twice
  pub hit_once : (hit : List ℕ) → hit ≡ hit_by net plan domain → IsOnce hit
  hit_once hit is = record {
    once = λ i j d here there. elim (cases_lt i j) [
      | inl less ↦ absurd (let more = hit_rises hit i j d d is less here there in omega arith)
      | inr after ↦ elim (cases_lt j i) [ inl less ↦ absurd (let more = hit_rises hit j i d d is less there here in omega arith) | inr before ↦ omega arith ]
    ];
  }

  -- there are no more than devices
  pub hit_few : (hit : List ℕ) → hit ≡ hit_by net plan domain → length hit ≤ length net.devices
  hit_few hit is =
      omega (
        arith,
        ap length is,
        length-filter (is_hit net plan domain) (below (length net.devices)),
        count_by-le-length (is_hit net plan domain)
            (below (length net.devices)),
        length-below (length net.devices),
      )

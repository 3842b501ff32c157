-- What shares a domain with hops.
use Rattle.std.proofs.Common.{◌≡◌, ℕ, ◌<◌, Bool, true, false, ◌&&◌, ◌||◌, not, List, [], ◌∷◌, ◌++◌, length, map, nat_eq, if◌then◌else◌, refl, sym, ap, ◌∙◌, inl, inr}
use Rattle.std.specs.List.{list_any}
use Rattle.std.proofs.lemmas.Bool.{or_left, or_right, or_cases, and_parts, and_from, eqb-true, eq-eqb, lt-ltb}
use Rattle.std.proofs.lemmas.List.{length-replicate}
use Rattle.std.proofs.lemmas.Option.{slice_get_within}
use Rattle.std.proofs.lemmas.List.Folds.{list_any-append}
use Rattle.std.proofs.lemmas.Map.Keys.{any_passes_from_place}
use Rattle.sd_num.specs.Lists.{below, has}
use Rattle.sd_num.proofs.Shared.{any_same, same_from_both}
use Rattle.sd_plan.specs.topo.Network.{Network, device_numbers, link_numbers}
use Rattle.sd_plan.specs.topo.Places.{domain_of}
use Rattle.sd_plan.specs.domain.Domains.{domains, holds_device, holds_link, hits}
use Rattle.sd_plan.specs.declared.domain.DomainId.{DomainId}
use Rattle.sd_plan.specs.declared.domain.DomainId.TheVariants as domain
use Rattle.sd_plan.specs.declared.Hop.{Hop}
use Rattle.sd_plan.specs.Walks.{things_of, devices_of, links_of}
use Rattle.sd_plan.proofs.Forest.{or_none}
use Rattle.sd_planner.specs.declared.placement.Placed.{Placed}
use Rattle.sd_planner.specs.Climbs.{way_up, leads_over}
use Rattle.sd_planner.specs.Flags.{is_set, AreSet, AreOver}
use Rattle.sd_planner.specs.Things.{AddsAll, AreNone, AreNear, AreUnfit, meets, met_device, met_link, parents_of, shares_device, shares_link}
use Rattle.sd_planner.specs.declared.backups.things.Things.{Things}
use Rattle.sd_planner.proofs.Members.{passed, had, has_below, any-map}
use Rattle.sd_planner.proofs.Joining.{device_listed, link_listed}
use Rattle.sd_planner.proofs.Adding.{unset}
use Rattle.sd_planner.proofs.Trees.{stands, Stands}
use Rattle.sd_planner.proofs.Lists.{has_any}
use Rattle.sd_planner.proofs.Walks.{or_swap}

-- two lists have a number in common
pub in_common : (xs ys : List ℕ) → list_any (has xs) ys ≡ list_any (has ys) xs
in_common xs ys = same_from_both (list_any (has xs) ys) (list_any (has ys) xs) (λ any. turn xs ys any) (λ any. turn ys xs any)
  where
    turn : (us vs : List ℕ) → list_any (has us) vs ≡ true → list_any (has vs) us ≡ true
    turn us vs any = let h = had (has us) vs any in has_any (has vs) us h.element h.passes h.there

-- hops are hit by what has one of their links or devices
pub hits_parts : (net : Network) (f : DomainId) (hops : List Hop)
    → hits net f (things_of hops) ≡ (list_any (holds_link net f) (links_of hops) || list_any (holds_device net f) (parents_of hops))
hits_parts net f [] = refl
hits_parts net f (hop ∷ hops) =
    ap (λ t. holds_link net f hop.link || (holds_device net f hop.parent || t)) (hits_parts net f hops)
    ∙ regroup (holds_link net f hop.link) (holds_device net f hop.parent) (list_any (holds_link net f) (links_of hops))
    (list_any (holds_device net f) (parents_of hops))
  where
    regroup : (a b c d : Bool) → (a || (b || (c || d))) ≡ ((a || c) || (b || d))
    regroup true b c d = refl
    regroup false true true d = refl
    regroup false true false d = refl
    regroup false false c d = refl

any_never : {X : Type 0} (xs : List X) → list_any (λ x. false) xs ≡ false
any_never [] = refl
any_never (x ∷ xs) = any_never xs

-- a test that only one number can pass
any_only : (test : ℕ → Bool) (n x : ℕ) → (test x ≡ true → x < n) → list_any (λ e. test e && nat_eq e x) (below n) ≡ test x
any_only test n x within = same_from_both (list_any (λ e. test e && nat_eq e x) (below n)) (test x) there back
  where
    there : list_any (λ e. test e && nat_eq e x) (below n) ≡ true → test x ≡ true
    there any = let h = had (λ e. test e && nat_eq e x) (below n) any in let parts = and_parts (test h.element) (nat_eq h.element x) h.passes in
        ap test (sym (eqb-true h.element x parts.1)) ∙ parts.0

    back : test x ≡ true → list_any (λ e. test e && nat_eq e x) (below n) ≡ true
    back passes =
        has_any (λ e. test e && nat_eq e x) (below n) x (has_below n x ∙ lt-ltb x n (within passes)) (and_from (test x) (nat_eq x x) passes (eq-eqb x x refl))

any_false : {X : Type 0} (test : X → Bool) (xs : List X) → list_any (λ x. test x && false) xs ≡ false
any_false test xs = any_same (λ x. test x && false) (λ x. false) xs (λ x. never (test x)) ∙ any_never xs
  where
    never : (t : Bool) → (t && false) ≡ false
    never true = refl
    never false = refl

-- a test of all domains is one of the three kinds
any_domain : (net : Network) (test : DomainId → Bool)
    → list_any test (domains net)
    ≡ ((list_any (λ k. test (domain.Listed k)) (below (length net.domains)) || list_any (λ e. test (domain.Device e)) (device_numbers net))
    || list_any (λ m. test (domain.Link m)) (link_numbers net))
any_domain net test =
    list_any-append test (map domain.Listed (below (length net.domains)) ++ map domain.Device (device_numbers net)) (map domain.Link (link_numbers net))
    ∙ ap (λ t. t || list_any test (map domain.Link (link_numbers net)))
    (list_any-append test (map domain.Listed (below (length net.domains))) (map domain.Device (device_numbers net))
    ∙ ap (λ t. t || list_any test (map domain.Device (device_numbers net))) (any-map domain.Listed test (below (length net.domains)))
    ∙ ap (λ t. list_any (λ k. test (domain.Listed k)) (below (length net.domains)) || t) (any-map domain.Device test (device_numbers net)))
    ∙ ap (λ t. (list_any (λ k. test (domain.Listed k)) (below (length net.domains)) || list_any (λ e. test (domain.Device e)) (device_numbers net)) || t)
    (any-map domain.Link test (link_numbers net))

module _ (net : Network) (hops : List Hop) (devices_within : (x : ℕ) → has (parents_of hops) x ≡ true → x < length net.devices) (links_within : (x : ℕ)
    → has (links_of hops) x ≡ true → x < length net.links) where
  hits_device : (e : ℕ) → hits net (domain.Device e) (things_of hops) ≡ has (parents_of hops) e
  hits_device e = hits_parts net (domain.Device e) hops ∙ ap (λ t. t || has (parents_of hops) e) (any_never (links_of hops))

  hits_link : (m : ℕ) → hits net (domain.Link m) (things_of hops) ≡ has (links_of hops) m
  hits_link m = hits_parts net (domain.Link m) hops ∙ ap (λ t. has (links_of hops) m || t) (any_never (parents_of hops)) ∙ or_none (has (links_of hops) m)

  module _ (walk : Things) (device : (x : ℕ) → is_set walk.devices.items x ≡ has (parents_of hops) x) (link : (x : ℕ)
      → is_set walk.links.items x ≡ has (links_of hops) x) where
    -- a listed domain hits the hops where it has something flagged
    hits_listed : (k : ℕ) → hits net (domain.Listed k) (things_of hops) ≡ meets net walk k
    hits_listed k =
        hits_parts net (domain.Listed k) hops
        ∙ or_swap (list_any (holds_link net (domain.Listed k)) (links_of hops)) (list_any (holds_device net (domain.Listed k)) (parents_of hops))
        ∙ ap (λ t. t || list_any (holds_link net (domain.Listed k)) (links_of hops))
        (any_same (holds_device net (domain.Listed k)) (has (domain_of net k).devices) (parents_of hops) (device_listed net k)
        ∙ in_common (domain_of net k).devices (parents_of hops)
        ∙ any_same (has (parents_of hops)) (is_set walk.devices.items) (domain_of net k).devices (λ x. sym (device x)))
        ∙ ap (λ t. list_any (is_set walk.devices.items) (domain_of net k).devices || t)
        (any_same (holds_link net (domain.Listed k)) (has (domain_of net k).links) (links_of hops) (link_listed net k)
        ∙ in_common (domain_of net k).links (links_of hops)
        ∙ any_same (has (links_of hops)) (is_set walk.links.items) (domain_of net k).links (λ x. sym (link x)))

    pub near_device : (x : ℕ) → (met_device net walk (length net.domains) x || has (parents_of hops) x) ≡ shares_device net hops x
    near_device x =
        sym
        (any_domain net (λ f. hits net f (things_of hops) && holds_device net f x)
        ∙ ap
        (λ t. (t || list_any (λ e. hits net (domain.Device e) (things_of hops) && nat_eq e x) (device_numbers net))
        || list_any (λ m. hits net (domain.Link m) (things_of hops) && false) (link_numbers net))
        (any_same (λ k. hits net (domain.Listed k) (things_of hops) && holds_device net (domain.Listed k) x)
        (λ k. meets net walk k && has (domain_of net k).devices x) (below (length net.domains))
        (λ k. ap (λ t. t && holds_device net (domain.Listed k) x) (hits_listed k) ∙ ap (λ t. meets net walk k && t) (device_listed net k x)))
        ∙ ap (λ t. (met_device net walk (length net.domains) x || t) || list_any (λ m. hits net (domain.Link m) (things_of hops) && false) (link_numbers net))
        (any_only (λ e. hits net (domain.Device e) (things_of hops)) (length net.devices) x (λ hit. devices_within x (sym (hits_device x) ∙ hit))
        ∙ hits_device x)
        ∙ ap (λ t. (met_device net walk (length net.domains) x || has (parents_of hops) x) || t)
        (any_false (λ m. hits net (domain.Link m) (things_of hops)) (link_numbers net))
        ∙ or_none (met_device net walk (length net.domains) x || has (parents_of hops) x))

    pub near_link : (x : ℕ) → (met_link net walk (length net.domains) x || has (links_of hops) x) ≡ shares_link net hops x
    near_link x =
        sym
        (any_domain net (λ f. hits net f (things_of hops) && holds_link net f x)
        ∙ ap
        (λ t. (t || list_any (λ e. hits net (domain.Device e) (things_of hops) && false) (device_numbers net))
        || list_any (λ m. hits net (domain.Link m) (things_of hops) && nat_eq m x) (link_numbers net))
        (any_same (λ k. hits net (domain.Listed k) (things_of hops) && holds_link net (domain.Listed k) x)
        (λ k. meets net walk k && has (domain_of net k).links x) (below (length net.domains))
        (λ k. ap (λ t. t && holds_link net (domain.Listed k) x) (hits_listed k) ∙ ap (λ t. meets net walk k && t) (link_listed net k x)))
        ∙ ap (λ t. (met_link net walk (length net.domains) x || t)
        || list_any (λ m. hits net (domain.Link m) (things_of hops) && nat_eq m x) (link_numbers net))
        (any_false (λ e. hits net (domain.Device e) (things_of hops)) (device_numbers net))
        ∙ ap (λ t. t || list_any (λ m. hits net (domain.Link m) (things_of hops) && nat_eq m x) (link_numbers net))
        (or_none (met_link net walk (length net.domains) x))
        ∙ ap (λ t. met_link net walk (length net.domains) x || t)
        (any_only (λ m. hits net (domain.Link m) (things_of hops)) (length net.links) x (λ hit. links_within x (sym (hits_link x) ∙ hit)) ∙ hits_link x))

  -- from two walks and the domains that the first meets
  pub near_is : (walk_none walk near_none met near : Things) → AreNone net walk_none → AddsAll (has (parents_of hops)) (has (links_of hops)) walk_none walk
      → AreNone net near_none
      → AddsAll (met_device net walk (length net.domains)) (met_link net walk (length net.domains)) near_none met
      → AddsAll (has (parents_of hops)) (has (links_of hops)) met near → AreNear net hops near
  near_is walk_none walk near_none met near first one second two three =
      let device : (x : ℕ) → is_set walk.devices.items x ≡ has (parents_of hops) x =
      λ x. one.device x ∙ ap (λ t. t || has (parents_of hops) x) (ap (λ flags. is_set flags x) first.devices ∙ unset (length net.devices) x) in
      let link : (x : ℕ) → is_set walk.links.items x ≡ has (links_of hops) x =
      λ x. one.link x ∙ ap (λ t. t || has (links_of hops) x) (ap (λ flags. is_set flags x) first.links ∙ unset (length net.links) x) in
      record {
        sized = record {
          devices = three.device_size ∙ two.device_size ∙ ap length second.devices ∙ length-replicate (length net.devices) false;
          links = three.link_size ∙ two.link_size ∙ ap length second.links ∙ length-replicate (length net.links) false;
        };
        device = λ x.
            three.device x
            ∙ ap (λ t. t || has (parents_of hops) x)
            (two.device x
            ∙ ap (λ t. t || met_device net walk (length net.domains) x) (ap (λ flags. is_set flags x) second.devices ∙ unset (length net.devices) x))
            ∙ near_device walk device link x;
        link = λ x.
            three.link x
            ∙ ap (λ t. t || has (links_of hops) x)
            (two.link x ∙ ap (λ t. t || met_link net walk (length net.domains) x) (ap (λ flags. is_set flags x) second.links ∙ unset (length net.links) x))
            ∙ near_link walk device link x;
      }

-- who follows the root over what is near, the root apart
pub unfit_is : (net : Network) (root : ℕ) (order : List Placed) (hops : List Hop) (near over : Things) (devices : List Bool) → AreNear net hops near
    → AreSet (root ∷ []) false near.devices.items devices
    → AreOver devices near.links.items order (length order) over.devices.items → over.links.items ≡ near.links.items → AreUnfit net root order hops over
unfit_is net root order hops near over devices near_ones without are links =
    record {
      device = λ d p found.
          (let s : Stands order d p = stands order d p found in
          ap (is_set over.devices.items) (sym s.is)
          ∙ are.each s.place p (slice_get_within order s.place p s.at) s.at
          ∙ ap (leads_over (is_set devices) (is_set near.links.items) order) s.is
          ∙ ap (λ t. t || list_any (is_set near.links.items) (links_of (way_up order d)))
          (any_same (is_set devices) (λ x. not (nat_eq x root) && shares_device net hops x) (devices_of d (way_up order d)) tested)
          ∙ ap (λ t. list_any (λ x. not (nat_eq x root) && shares_device net hops x) (devices_of d (way_up order d)) || t)
          (any_same (is_set near.links.items) (shares_link net hops) (links_of (way_up order d)) near_ones.link));
      link = λ x. ap (λ flags. is_set flags x) links ∙ near_ones.link x;
    }
  where
    by_test : (t b : Bool) → (if t || false then false else b) ≡ (not t && b)
    by_test true b = refl
    by_test false b = refl

    tested : (x : ℕ) → is_set devices x ≡ (not (nat_eq x root) && shares_device net hops x)
    tested x = without.each x ∙ by_test (nat_eq x root) (is_set near.devices.items x) ∙ ap (λ t. not (nat_eq x root) && t) (near_ones.device x)

-- some domain has something of three things: one by one
module _ {D : Type 0} (hit own : D → Bool) (link device : D → ℕ → Bool) (apart : ℕ → Bool) (links devices : List ℕ) (ds : List D) where
  abbrev takes : D → Bool
  takes f = (own f || list_any (link f) links) || list_any (λ x. apart x && device f x) devices

  abbrev left : Bool
  left = list_any (λ f. hit f && takes f) ds

  abbrev one : Bool
  one = list_any (λ f. hit f && own f) ds

  abbrev two : Bool
  two = list_any (λ x. list_any (λ f. hit f && link f x) ds) links

  abbrev three : Bool
  three = list_any (λ x. apart x && list_any (λ f. hit f && device f x) ds) devices

  abbrev right : Bool
  right = (one || two) || three

  there : left ≡ true → right ≡ true
  there any =
      let h = passed (λ f. hit f && takes f) ds any in
      let f = h.element in
      let parts = and_parts (hit f) (takes f) h.passes in
      elim (or_cases (own f || list_any (link f) links) (list_any (λ x. apart x && device f x) devices) parts.1) [
        | inl early ↦ or_left (one || two) three (elim (or_cases (own f) (list_any (link f) links) early) [
          | inl here ↦ or_left one two (any_passes_from_place (λ g. hit g && own g) ds h.place f h.at (and_from (hit f) (own f) parts.0 here))
          | inr some ↦
              (let m = passed (link f) links some in
              or_right one two
              (any_passes_from_place (λ x. list_any (λ g. hit g && link g x) ds) links m.place m.element m.at
              (any_passes_from_place (λ g. hit g && link g m.element) ds h.place f h.at (and_from (hit f) (link f m.element) parts.0 m.passes))))
        ])
        | inr late ↦
            (let m = passed (λ x. apart x && device f x) devices late in
            let both = and_parts (apart m.element) (device f m.element) m.passes in
            or_right (one || two) three
            (any_passes_from_place (λ x. apart x && list_any (λ g. hit g && device g x) ds) devices m.place m.element m.at
            (and_from (apart m.element) (list_any (λ g. hit g && device g m.element) ds) both.0
            (any_passes_from_place (λ g. hit g && device g m.element) ds h.place f h.at (and_from (hit f) (device f m.element) parts.0 both.1)))))
      ]

  back : right ≡ true → left ≡ true
  back any = elim (or_cases (one || two) three any) [
    | inl early ↦ elim (or_cases one two early) [
      | inl here ↦
          (let h = passed (λ f. hit f && own f) ds here in
          let f = h.element in
          let parts = and_parts (hit f) (own f) h.passes in
          any_passes_from_place (λ g. hit g && takes g) ds h.place f h.at
          (and_from (hit f) (takes f) parts.0
          (or_left (own f || list_any (link f) links) (list_any (λ x. apart x && device f x) devices) (or_left (own f) (list_any (link f) links) parts.1))))
      | inr some ↦
          (let m = passed (λ x. list_any (λ f. hit f && link f x) ds) links some in
          let h = passed (λ f. hit f && link f m.element) ds m.passes in
          let f = h.element in
          let parts = and_parts (hit f) (link f m.element) h.passes in
          any_passes_from_place (λ g. hit g && takes g) ds h.place f h.at
          (and_from (hit f) (takes f) parts.0
          (or_left (own f || list_any (link f) links) (list_any (λ x. apart x && device f x) devices)
          (or_right (own f) (list_any (link f) links) (any_passes_from_place (link f) links m.place m.element m.at parts.1)))))
    ]
    | inr late ↦
        (let m = passed (λ x. apart x && list_any (λ f. hit f && device f x) ds) devices late in
        let both = and_parts (apart m.element) (list_any (λ f. hit f && device f m.element) ds) m.passes in
        let h = passed (λ f. hit f && device f m.element) ds both.1 in
        let f = h.element in
        let parts = and_parts (hit f) (device f m.element) h.passes in
        any_passes_from_place (λ g. hit g && takes g) ds h.place f h.at
        (and_from (hit f) (takes f) parts.0
        (or_right (own f || list_any (link f) links) (list_any (λ x. apart x && device f x) devices)
        (any_passes_from_place (λ x. apart x && device f x) devices m.place m.element m.at (and_from (apart m.element) (device f m.element) both.0 parts.1)))))
  ]

  pub by_parts : left ≡ right
  by_parts = same_from_both left right there back

-- A ring of devices that may follow each other while things of a domain fail: each of them is hit, and hit by what the domain has beside the ring.
use Rattle.std.specs.Prelude.{◌≡◌, ℕ, ◌<◌, Bool, true, false, ◌&&◌, ◌||◌, not, List, [], ◌∷◌, ◌++◌, length, map, nat_eq, nat_lt, slice_get, Option, Some, None, option_map, option_to_list, ◌⊎◌, refl, if◌then◌else◌}
use Rattle.std.specs.List.{list_any}
use Rattle.std.proofs.Common.{sym, ap, ◌∙◌, subst, arith, inl, inr}
use Rattle.std.proofs.lemmas.Bool.{and_parts, and_right, or_cases, or_left, or_right, or_parts, eqb-true, eq-eqb, ne_eqb, ltb-true, lt-ltb, cases_lt, cases_Bool, both_ways, not-true}
use Rattle.std.proofs.lemmas.List.Folds.{list_any-append}
use Rattle.std.proofs.lemmas.Option.{slice_get_past}
use Rattle.sd_num.specs.Lists.{below, has, map_or, all_below}
use Rattle.sd_plan.specs.topo.Network.{Network, Domain, device_numbers, link_numbers}
use Rattle.sd_plan.specs.topo.Limits.{IsNetwork}
use Rattle.sd_plan.specs.declared.topo.Thing.{Thing}
use Rattle.sd_plan.specs.declared.topo.Thing.TheVariants as thing
use Rattle.sd_plan.specs.domain.Domains.{domains, holds_device, holds_link, hits}
use Rattle.sd_plan.specs.domain.Lone.{IsDomain}
use Rattle.sd_plan.specs.declared.domain.DomainId.{DomainId}
use Rattle.sd_plan.specs.declared.domain.DomainId.TheVariants as domain
use Rattle.sd_plan.specs.declared.Hop.{Hop}
use Rattle.sd_plan.specs.declared.Plan.{Plan}
use Rattle.sd_plan.specs.declared.PlanRow.{PlanRow}
use Rattle.sd_plan.specs.Plans.{Fits, is_member, primary_of, backup_of, row_of}
use Rattle.sd_plan.specs.Walks.{ends_walks, is_hit, epath, things_of, short_path, short_walk}
use Rattle.sd_plan.specs.Structure.{structure_breach}
use Rattle.sd_plan.proofs.Forest.{IsForest, forest_of, climb, IsParent, one_parent}
use Rattle.sd_checker.specs.check_loop.ShownCycles.{LeadsTo, IsChain, AreDifferent}
use Rattle.sd_history.proofs.Among as among
use Rattle.sd_history.proofs.Among.{Among, on_right, either_side}
use Rattle.sd_history.proofs.Given.{some_is}
use Rattle.sd_history.proofs.flights.Places.{among_below}
use Rattle.sd_history.proofs.Shared.{among_at, among_below as below_among}
use Rattle.sd_beside.specs.needed.Alone.{holds_besides}
use Rattle.sd_beside.specs.needed.Loops.{IsRing}
use Rattle.sd_beside.proofs.needed.Elements.{mapped, on_left}
use Rattle.sd_beside.proofs.needed.Paths.{no_short_walk, short_walk_is, short_walk_none, path_step}
use Rattle.sd_beside.proofs.needed.Zones.{zone_in, zone_of}

-- Domains

pub domain_among : (net : Network) (f : DomainId) → IsDomain net f → Among f (domains net)
domain_among net (domain.Listed k) is =
    on_left (map domain.Listed (below (length net.domains)) ++ map domain.Device (device_numbers net)) (map domain.Link (link_numbers net)) (domain.Listed k)
    (on_left (map domain.Listed (below (length net.domains))) (map domain.Device (device_numbers net)) (domain.Listed k)
    (mapped domain.Listed (below (length net.domains)) k (below_among (length net.domains) k is)))
domain_among net (domain.Device d) is =
    on_left (map domain.Listed (below (length net.domains)) ++ map domain.Device (device_numbers net)) (map domain.Link (link_numbers net)) (domain.Device d)
    (on_right (map domain.Listed (below (length net.domains))) (mapped domain.Device (device_numbers net) d (below_among (length net.devices) d is)))
domain_among net (domain.Link l) is =
    on_right (map domain.Listed (below (length net.domains)) ++ map domain.Device (device_numbers net))
    (mapped domain.Link (link_numbers net) l (below_among (length net.links) l is))

record Unmapped {A B : Type 0} (g : A → B) (xs : List A) (y : B) : Type 0 where
  pub from : A
  pub there : Among from xs
  pub is : g from ≡ y

unmapped : {A B : Type 0} (g : A → B) (xs : List A) (y : B) → Among y (map g xs) → Unmapped g xs y
unmapped g [] y a = elim a [ ]
unmapped {B = B} g (x ∷ xs) y a = at_head (g x) (map g xs) y refl a (unmapped g xs y)
  where
    at_head : (z : B) (zs : List B) (w : B) → g x ≡ z → Among w (z ∷ zs) → (Among w zs → Unmapped g xs w) → Unmapped g (x ∷ xs) w
    at_head z zs w is among.first rest = record { from = x; there = among.first; is = is }
    at_head z zs w is (among.later b) rest = let more : Unmapped g xs w = rest b in record { from = more.from; there = among.later more.there; is = more.is }

-- what is at a place of the domains is a domain
pub domain_is : (net : Network) (k : ℕ) (f : DomainId) → slice_get (domains net) k ≡ Some f → IsDomain net f
domain_is net k f at =
    elim (either_side (map domain.Listed (below (length net.domains)) ++ map domain.Device (device_numbers net)) (map domain.Link (link_numbers net))
    (among_at (domains net) k f at)) [
      | inl front ↦ elim (either_side (map domain.Listed (below (length net.domains))) (map domain.Device (device_numbers net)) front) [
        | inl a ↦ (let it : Unmapped domain.Listed (below (length net.domains)) f = unmapped domain.Listed (below (length net.domains)) f a in
            subst (IsDomain net) it.is (among_below (length net.domains) it.from it.there))
        | inr a ↦ (let it : Unmapped domain.Device (device_numbers net) f = unmapped domain.Device (device_numbers net) f a in
            subst (IsDomain net) it.is (among_below (length net.devices) it.from it.there))
      ]
      | inr a ↦ (let it : Unmapped domain.Link (link_numbers net) f = unmapped domain.Link (link_numbers net) f a in
          subst (IsDomain net) it.is (among_below (length net.links) it.from it.there))
    ]

-- a number of the list is below the bound of all
all_has : (bound : ℕ) (xs : List ℕ) (x : ℕ) → all_below bound xs ≡ true → has xs x ≡ true → x < bound
all_has bound [] x all there = cc
all_has bound (y ∷ ys) x all there =
    let (here, rest) = and_parts (nat_lt y bound) (all_below bound ys) all in
    elim (or_cases (nat_eq x y) (has ys x) there) [
      | inl same ↦ (let less = ltb-true y bound here in let equal = eqb-true x y same in omega (arith, less, equal))
      | inr more ↦ all_has bound ys x rest more
    ]

-- the things of a domain are things of the network
pub known_device : (net : Network) (f : DomainId) (d : ℕ) → IsNetwork net → IsDomain net f → holds_device net f d ≡ true → d < length net.devices
known_device net (domain.Listed k) d law is held = by (slice_get net.domains k) refl held
  where
    by : (o : Option Domain) → slice_get net.domains k ≡ o → map_or o false (λ listed. has listed.devices d) ≡ true → d < length net.devices
    by None at held' = cc
    by (Some x) at held' =
        let tests = and_parts _ (all_below (length net.links) x.links) (law.each_domain k x at) in
        all_has (length net.devices) x.devices d (and_parts _ (all_below (length net.devices) x.devices) tests.0).1 held'
known_device net (domain.Device e) d law is held = let same = eqb-true e d held in omega (arith, is, same)
known_device net (domain.Link l) d law is held = cc

pub known_link : (net : Network) (f : DomainId) (l : ℕ) → IsNetwork net → IsDomain net f → holds_link net f l ≡ true → l < length net.links
known_link net (domain.Listed k) l law is held = by (slice_get net.domains k) refl held
  where
    by : (o : Option Domain) → slice_get net.domains k ≡ o → map_or o false (λ listed. has listed.links l) ≡ true → l < length net.links
    by None at held' = cc
    by (Some x) at held' = all_has (length net.links) x.links l (and_parts _ (all_below (length net.links) x.links) (law.each_domain k x at)).1 held'
known_link net (domain.Device e) l law is held = cc
known_link net (domain.Link m) l law is held = let same = eqb-true m l held in omega (arith, is, same)

-- Who comes next in a ring

abbrev head_or : ℕ → List ℕ → ℕ
head_or first [] = first
head_or first (y ∷ ys) = y

-- the element after x, or the first after the last
abbrev pub next_in : ℕ → List ℕ → ℕ → ℕ
next_in first [] x = first
next_in first (y ∷ ys) x = if nat_eq y x then head_or first ys else next_in first ys x

next_by : (R : ℕ → ℕ → Type 0) (first y x : ℕ) (ys : List ℕ) (b : Bool) → nat_eq y x ≡ b → R y (head_or first ys)
    → (nat_eq y x ≡ false → R x (next_in first ys x))
    → R x (if b then head_or first ys else next_in first ys x)
next_by R first y x ys true same here rest = subst (λ (v : ℕ). R v (head_or first ys)) (eqb-true y x same) here
next_by R first y x ys false other here rest = rest other

pub leads_next : (R : ℕ → ℕ → Type 0) (first y : ℕ) (ys : List ℕ) → IsChain R (y ∷ (ys ++ first ∷ [])) → (x : ℕ) → has (y ∷ ys) x ≡ true
    → R x (next_in first (y ∷ ys) x)
leads_next R first y [] chain x there =
    next_by R first y x [] (nat_eq y x) refl chain.0
    (λ other. elim (or_cases (nat_eq x y) false there) [
      | inl same ↦ absurd (both_ways (nat_eq y x) other (eq-eqb y x (sym (eqb-true x y same))))
      | inr never ↦ absurd (both_ways false refl never)
    ])
leads_next R first y (z ∷ zs) chain x there =
    next_by R first y x (z ∷ zs) (nat_eq y x) refl chain.0
    (λ other. elim (or_cases (nat_eq x y) (has (z ∷ zs) x) there) [
      | inl same ↦ absurd (both_ways (nat_eq y x) other (eq-eqb y x (sym (eqb-true x y same))))
      | inr more ↦ leads_next R first z zs chain.1 x more
    ])

pub chain_of : (R : ℕ → ℕ → Type 0) (first y : ℕ) (ys : List ℕ) → AreDifferent (y ∷ ys) → ((x : ℕ) → has (y ∷ ys) x ≡ true → R x (next_in first (y ∷ ys) x))
    → IsChain R (y ∷ (ys ++ first ∷ []))
chain_of R first y [] different each =
    (subst (λ (b : Bool). R y (if b then first else first)) (eq-eqb y y refl) (each y (or_left (nat_eq y y) false (eq-eqb y y refl))), tt)
chain_of R first y (z ∷ zs) different each = (
  subst (λ (b : Bool). R y (if b then z else next_in first (z ∷ zs) y)) (eq-eqb y y refl)
      (each y (or_left (nat_eq y y) (has (z ∷ zs) y) (eq-eqb y y refl))),
  chain_of R first z zs different.1 (λ x there.
      subst (λ (b : Bool). R x (if b then z else next_in first (z ∷ zs) x)) (apart x there) (each x (or_right (nat_eq x y) (has (z ∷ zs) x) there))),
)
  where
    apart : (x : ℕ) → has (z ∷ zs) x ≡ true → nat_eq y x ≡ false
    apart x there =
        ne_eqb y x (λ same. both_ways (has (z ∷ zs) y) (not-true (has (z ∷ zs) y) different.0) (subst (λ (v : ℕ). has (z ∷ zs) v ≡ true) (sym same) there))

-- the next is the first, or one of them
next_or : (first : ℕ) (ys : List ℕ) (x : ℕ) → (next_in first ys x ≡ first) ⊎ (has ys (next_in first ys x) ≡ true)
next_or first [] x = inl refl
next_or first (y ∷ ys) x = by (nat_eq y x) (next_or first ys x)
  where
    head : (zs : List ℕ) → (head_or first zs ≡ first) ⊎ (has (y ∷ zs) (head_or first zs) ≡ true)
    head [] = inl refl
    head (z ∷ zs) = inr (or_right (nat_eq z y) (has (z ∷ zs) z) (or_left (nat_eq z z) (has zs z) (eq-eqb z z refl)))

    by : (b : Bool) → (next_in first ys x ≡ first) ⊎ (has ys (next_in first ys x) ≡ true)
        → ((if b then head_or first ys else next_in first ys x) ≡ first) ⊎ (has (y ∷ ys) (if b then head_or first ys else next_in first ys x) ≡ true)
    by true rest = head ys
    by false (inl same) = inl same
    by false (inr there) = inr (or_right (nat_eq (next_in first ys x) y) (has ys (next_in first ys x)) there)

pub next_has : (first : ℕ) (others : List ℕ) (x : ℕ) → has (first ∷ others) (next_in first (first ∷ others) x) ≡ true
next_has first others x = elim (next_or first (first ∷ others) x) [
  | inl same ↦ or_left (nat_eq (next_in first (first ∷ others) x) first) (has others (next_in first (first ∷ others) x))
      (eq-eqb (next_in first (first ∷ others) x) first same)
  | inr there ↦ there
]

-- Who leads to whom

pub record Led (net : Network) (plan : Plan) (f : DomainId) (x y : ℕ) : Type 0 where
  pub member : is_member plan x ≡ true
  pub other : ends_walks plan x ≡ false
  pub by : IsParent (primary_of plan x) y ⊎ ((is_hit net plan f x ≡ true) × IsParent (backup_of plan x) y)

-- the same by what is known of the device
abbrev LedBy : Bool → Bool → Bool → Option Hop → Option Hop → ℕ → Type 0
LedBy member ends hit primary backup y = (member ≡ true) × (ends ≡ false) × (IsParent primary y ⊎ ((hit ≡ true) × IsParent backup y))

led_by : (member ends hit : Bool) (primary backup : Option Hop) (y : ℕ)
    → list_any (λ hop. nat_eq hop.parent y)
    (if member && not ends then option_to_list primary ++ (if hit then option_to_list backup else []) else []) ≡ true
    → LedBy member ends hit primary backup y
led_by false ends hit primary backup y some = cc
led_by true true hit primary backup y some = cc
led_by true false true primary backup y some = (
  refl,
  refl,
  elim (or_cases (list_any (λ hop. nat_eq hop.parent y) (option_to_list primary)) (list_any (λ hop. nat_eq hop.parent y) (option_to_list backup))
      (sym (list_any-append (λ hop. nat_eq hop.parent y) (option_to_list primary) (option_to_list backup)) ∙ some)) [
        | inl one ↦ inl (one_parent primary y one)
        | inr two ↦ inr (refl, one_parent backup y two)
      ],
)
led_by true false false primary backup y some = (
  refl,
  refl,
  elim (or_cases (list_any (λ hop. nat_eq hop.parent y) (option_to_list primary)) false
      (sym (list_any-append (λ hop. nat_eq hop.parent y) (option_to_list primary) []) ∙ some)) [
        | inl one ↦ inl (one_parent primary y one)
        | inr never ↦ absurd (both_ways false refl never)
      ],
)

pub led : (net : Network) (plan : Plan) (f : DomainId) (x y : ℕ) → LeadsTo net plan f x y → Led net plan f x y
led net plan f x y leads =
    let it = led_by (is_member plan x) (ends_walks plan x) (is_hit net plan f x) (primary_of plan x) (backup_of plan x) y leads in
    record { member = it.0; other = it.1; by = it.2 }

-- Structure

-- a device with a hop is one of the network
pub has_hop_within : (net : Network) (plan : Plan) (x : ℕ) (hop : Hop) → Fits net plan → (primary_of plan x ≡ Some hop) ⊎ (backup_of plan x ≡ Some hop)
    → x < length net.devices
has_hop_within net plan x hop fits either = elim (cases_lt x (length net.devices)) [
  | inl within ↦ within
  | inr past ↦
      (let none : row_of plan x ≡ None = ap (λ o. map_or o None (λ row. row))
      (slice_get_past plan.rows x (let same = fits.entries in omega (arith, past, same))) in
      absurd (nothing none either))
]
  where
    nothing : row_of plan x ≡ None → (primary_of plan x ≡ Some hop) ⊎ (backup_of plan x ≡ Some hop) → ⊥
    nothing none (inl is) = let gone : primary_of plan x ≡ None = ap (option_map (λ row. row.primary)) none in cc
    nothing none (inr is) = let gone : backup_of plan x ≡ None = ap (λ (o : Option PlanRow). map_or o None (λ row. row.backup)) none in cc

-- The ring

module _ (net : Network) (plan : Plan) (law : IsNetwork net) (fits : Fits net plan) (structured : structure_breach net plan ≡ None) (f : DomainId)
    (is_domain : IsDomain net f) (first : ℕ) (others : List ℕ) (ring : IsRing net plan f first others) where
  abbrev all : List ℕ
  all = first ∷ others

  abbrev next : ℕ → ℕ
  next x = next_in first all x

  abbrev down : Thing → Bool
  down = holds_besides net f all

  forest : IsForest net plan
  forest = forest_of net plan fits structured

  pub led_next : (x : ℕ) → has all x ≡ true → Led net plan f x (next x)
  led_next x there = led net plan f x (next x) (leads_next (LeadsTo net plan f) first first others ring.leads x there)

  -- each of the ring is hit
  hit_all : (x : ℕ) → x < length net.devices → has all x ≡ true → is_hit net plan f x ≡ true
  hit_all = climb net plan forest (λ x. has all x ≡ true → is_hit net plan f x ≡ true)
      (λ x within none there. top x none (led_next x there))
      (λ x hop within is step above there. up x hop within is above there (led_next x there) (is_hit net plan f x) refl)
    where
      top : (x : ℕ) → primary_of plan x ≡ None → Led net plan f x (next x) → is_hit net plan f x ≡ true
      top x none l = elim l.by [
        | inl parent ↦ absurd (no_parent parent)
        | inr both ↦ both.0
      ]
        where
          no_parent : IsParent (primary_of plan x) (next x) → ⊥
          no_parent parent = let there : primary_of plan x ≡ Some parent.0 = parent.1 in cc

      up : (x : ℕ) (hop : Hop) → x < length net.devices → primary_of plan x ≡ Some hop → (has all hop.parent ≡ true → is_hit net plan f hop.parent ≡ true)
          → has all x ≡ true → Led net plan f x (next x) → (b : Bool) → is_hit net plan f x ≡ b → is_hit net plan f x ≡ true
      up x hop within is above there l true hit = hit
      up x hop within is above there l false unhit = elim l.by [
        | inr both ↦ both.0
        | inl parent ↦
            (let same : hop ≡ parent.0 = some_is (sym is ∙ parent.1) in
            let leads : hop.parent ≡ next x = ap (λ (h : Hop). h.parent) same ∙ parent.2 in
            let on_ring : has all hop.parent ≡ true = subst (λ (v : ℕ). has all v ≡ true) (sym leads) (next_has first others x) in
            let other : ends_walks plan hop.parent ≡ false = (led_next hop.parent on_ring).other in
            let free : hits net f (things_of (hop ∷ short_walk net plan hop.parent)) ≡ false =
            subst (λ (hs : List Hop). hits net f (things_of hs) ≡ false) (path_step net plan x hop forest within is) unhit in
            let rest : hits net f (things_of (short_walk net plan hop.parent)) ≡ false =
            (or_parts (holds_device net f hop.parent) (hits net f (things_of (short_walk net plan hop.parent)))
            (or_parts (holds_link net f hop.link) (holds_device net f hop.parent || hits net f (things_of (short_walk net plan hop.parent))) free).1).1 in
            absurd (both_ways (is_hit net plan f hop.parent)
            (subst (λ (hs : List Hop). hits net f (things_of hs) ≡ false) (short_walk_is net plan hop.parent other) rest) (above on_ring)))
      ]

  -- what hits a short walk is there beside the ring
  touched_walk : (x : ℕ) → x < length net.devices → hits net f (things_of (short_walk net plan x)) ≡ true
      → list_any down (things_of (short_walk net plan x)) ≡ true
  touched_walk =
      climb net plan forest (λ x. hits net f (things_of (short_walk net plan x)) ≡ true → list_any down (things_of (short_walk net plan x)) ≡ true)
      (λ x within none hit. absurd (empty x (no_short_walk net plan x forest none) hit))
      (λ x hop within is step above hit.
      elim (cases_Bool (ends_walks plan x)) [
        | inl ends ↦ absurd (empty x (short_walk_none net plan x ends) hit)
        | inr other ↦
            (let whole : short_walk net plan x ≡ hop ∷ short_walk net plan hop.parent = short_walk_is net plan x other
            ∙ path_step net plan x hop forest within is in
            subst (λ (hs : List Hop). list_any down (things_of hs) ≡ true) (sym whole)
            (goes hop step.within above (subst (λ (hs : List Hop). hits net f (things_of hs) ≡ true) whole hit)))
      ])
    where
      empty : (x : ℕ) → short_walk net plan x ≡ [] → hits net f (things_of (short_walk net plan x)) ≡ true → ⊥
      empty x none hit = both_ways false refl (subst (λ (hs : List Hop). hits net f (things_of hs) ≡ true) none hit)

      goes : (hop : Hop) → hop.parent < length net.devices
          → (hits net f (things_of (short_walk net plan hop.parent)) ≡ true → list_any down (things_of (short_walk net plan hop.parent)) ≡ true)
          → hits net f (things_of (hop ∷ short_walk net plan hop.parent)) ≡ true → list_any down (things_of (hop ∷ short_walk net plan hop.parent)) ≡ true
      goes hop within above hit =
          elim (or_cases (holds_link net f hop.link) (holds_device net f hop.parent || hits net f (things_of (short_walk net plan hop.parent))) hit) [
            | inl link ↦ or_left (holds_link net f hop.link) (down (thing.Device hop.parent) || list_any down (things_of (short_walk net plan hop.parent))) link
            | inr more ↦
                or_right (holds_link net f hop.link) (down (thing.Device hop.parent) || list_any down (things_of (short_walk net plan hop.parent)))
                (elim (or_cases (holds_device net f hop.parent) (hits net f (things_of (short_walk net plan hop.parent))) more) [
                  | inl device ↦ at_device (has all hop.parent) refl device
                  | inr rest ↦ or_right (down (thing.Device hop.parent)) (list_any down (things_of (short_walk net plan hop.parent))) (above rest)
                ])
          ]
        where
          at_device : (b : Bool) → has all hop.parent ≡ b → holds_device net f hop.parent ≡ true
              → (down (thing.Device hop.parent) || list_any down (things_of (short_walk net plan hop.parent))) ≡ true
          at_device false off device =
              or_left (down (thing.Device hop.parent)) (list_any down (things_of (short_walk net plan hop.parent))) (rw (device, off) refl)
          at_device true on device =
              or_right (down (thing.Device hop.parent)) (list_any down (things_of (short_walk net plan hop.parent)))
              (above (subst (λ (hs : List Hop). hits net f (things_of hs) ≡ true) (sym (short_walk_is net plan hop.parent (led_next hop.parent on).other))
              (hit_all hop.parent within on)))

  pub touched : (x : ℕ) → x < length net.devices → has all x ≡ true → list_any down (epath net plan x) ≡ true
  touched x within there =
      let same : short_walk net plan x ≡ short_path net plan x = short_walk_is net plan x (led_next x there).other in
      subst (λ (hs : List Hop). list_any down (things_of hs) ≡ true) same
      (touched_walk x within (subst (λ (hs : List Hop). hits net f (things_of hs) ≡ true) (sym same) (hit_all x within there)))

  abbrev pub zone : ℕ → Bool
  zone = zone_in net plan down

  -- the devices of the ring are of it
  ring_within : (x : ℕ) → has all x ≡ true → x < length net.devices
  ring_within x there = by (led_next x there).by
    where
      by : IsParent (primary_of plan x) (next x) ⊎ ((is_hit net plan f x ≡ true) × IsParent (backup_of plan x) (next x)) → x < length net.devices
      by (inl parent) = has_hop_within net plan x parent.0 fits (inl parent.1)
      by (inr both) = has_hop_within net plan x both.1.0 fits (inr both.1.1)

  pub ring_zone : (x : ℕ) → has all x ≡ true → zone x ≡ true
  ring_zone x there =
      let l : Led net plan f x (next x) = led_next x there in
      let within = ring_within x there in
      let spared : down (thing.Device x) ≡ false = and_right (holds_device net f x) (not (has all x)) (ap not there) in
      zone_of net plan down x (rw (lt-ltb x (length net.devices) within, l.member, spared) refl) l.other (touched x within there)

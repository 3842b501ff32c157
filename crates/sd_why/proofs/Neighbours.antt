-- The neighbours of a device, where nothing is absent, are those that a link joins to it.
use Rattle.std.proofs.Common.{◌≡◌, ℕ, zero, suc, ◌<◌, Bool, true, ◌&&◌, List, [], ◌∷◌, ◌++◌, length, map, flat_map, nat_eq, Some, refl, ap, ◌∙◌, subst, arith, inl, inr, slice_get}
use Rattle.std.specs.List.{list_any}
use Rattle.std.proofs.lemmas.Grind.{flat_map-append}
use Rattle.std.proofs.lemmas.List.{append-nil}
use Rattle.std.proofs.lemmas.List.Folds.{list_any-append}
use Rattle.std.proofs.lemmas.Bool.{and_from, and_parts, or_cases, or_left, or_right, eq-eqb, eqb-true, cases_lt}
use Rattle.sd_num.specs.Lists.{below, has}
use Rattle.sd_num.proofs.Places.{has_below, kept_from}
use Rattle.sd_plan.specs.topo.Network.{Network, joins, link_numbers}
use Rattle.sd_plan.specs.Plans.{nothing_absent}
use Rattle.sd_plan.specs.declared.Absent.{Absent}
use Rattle.sd_planner.specs.Usable.{is_usable, links_between, neighbours_of}
use Rattle.sd_planner.specs.declared.present.Neighbour.{Neighbour}
use Rattle.sd_planner.proofs.Adjacency.{IsNeighbourOf, neighbours_are}
use Rattle.sd_planner.proofs.Elements.{all_at, at_any}
use Rattle.sd_why.specs.Ways.{NextTo}

-- one that passes in the list of one number
any_flat : {X : Type 0} (p : X → Bool) (f : ℕ → List X) (n y : ℕ) → y < n → list_any p (f y) ≡ true → list_any p (flat_map f (below n)) ≡ true
any_flat p f zero y within some = absurd (omega arith)
any_flat p f (suc n) y within some =
    ap (list_any p) (flat_map-append f (below n) (n ∷ [])) ∙ list_any-append p (flat_map f (below n)) (f n ++ [])
    ∙ elim (cases_lt y n) [
      | inl early ↦ or_left (list_any p (flat_map f (below n))) (list_any p (f n ++ [])) (any_flat p f n y early some)
      | inr late ↦
          (let same : y ≡ n = omega arith in
          or_right (list_any p (flat_map f (below n))) (list_any p (f n ++ []))
          (ap (list_any p) (append-nil (f n)) ∙ subst (λ m. list_any p (f m) ≡ true) same some))
    ]

-- one that passes where a number leads to it
any_map : {X : Type 0} (p : X → Bool) (f : ℕ → X) (xs : List ℕ) (x : ℕ) → has xs x ≡ true → p (f x) ≡ true → list_any p (map f xs) ≡ true
any_map p f [] x there passes = cc
any_map p f (y ∷ ys) x there passes = elim (or_cases (nat_eq x y) (has ys x) there) [
  | inl here ↦ or_left (p (f y)) (list_any p (map f ys)) (subst (λ z. p (f z) ≡ true) (eqb-true x y here) passes)
  | inr later ↦ or_right (p (f y)) (list_any p (map f ys)) (any_map p f ys x later passes)
]

-- a device next to d is one of its neighbours, over each link that joins the two
pub neighbour_at : (net : Network) (absent : Absent) (d e : ℕ) → absent ≡ nothing_absent → e < length net.devices
    → (next : NextTo net d e)
    → (k : ℕ) × (neighbour : Neighbour) × (slice_get (neighbours_of net absent d) k ≡ Some neighbour) × (neighbour.device ≡ e) × (neighbour.link ≡ next.link)
neighbour_at net absent d e none within next =
    let usable : is_usable net absent next.link ≡ true = ap (λ (a : Absent). is_usable net a next.link) none in
    let joined : has (links_between net absent d e) next.link ≡ true =
    kept_from (λ l. is_usable net absent l && joins net l d e) (link_numbers net) next.link
    (and_from (is_usable net absent next.link) (joins net next.link d e) usable next.joined) (has_below (length net.links) next.link next.within) in
    let leads : Neighbour → Bool = λ neighbour. nat_eq neighbour.device e && nat_eq neighbour.link next.link in
    let over : ℕ → ℕ → Neighbour = λ y l. record { device = y; link = l } in
    let some : list_any leads (neighbours_of net absent d) ≡ true =
    any_flat leads (λ y. map (over y) (links_between net absent d y)) (length net.devices) e within
    (any_map leads (over e) (links_between net absent d e) next.link joined
    (and_from (nat_eq e e) (nat_eq next.link next.link) (eq-eqb e e refl) (eq-eqb next.link next.link refl))) in
    let (k, neighbour, at, is) = at_any leads (neighbours_of net absent d) some in
    let (device, link) = and_parts (nat_eq neighbour.device e) (nat_eq neighbour.link next.link) is in
    (k, neighbour, at, eqb-true neighbour.device e device, eqb-true neighbour.link next.link link)

-- and each neighbour is next to it
pub neighbour_next : (net : Network) (absent : Absent) (d k : ℕ) (neighbour : Neighbour) → slice_get (neighbours_of net absent d) k ≡ Some neighbour
    → NextTo net d neighbour.device
neighbour_next net absent d k neighbour at =
    let is = all_at (IsNeighbourOf net absent d) (neighbours_of net absent d) k neighbour (neighbours_are net absent d) at in record { link = neighbour.link; within = is.link; joined = is.joined }

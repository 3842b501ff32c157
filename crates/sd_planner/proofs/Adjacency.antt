-- What holds of the usable neighbours, for those who go over them.
use Rattle.std.proofs.Common.{◌≡◌, ℕ, zero, suc, ◌<◌, ◌≤◌, inl, inr, Bool, true, false, ◌&&◌, not, cond, List, [], ◌∷◌, ◌++◌, length, map, filter, find, flat_map, get_or, nat_eq, All, Option, Some, None, option_map, refl, sym, ap, ◌∙◌, subst, arith}
use Rattle.std.specs.List.{slice_get}
use Rattle.std.specs.Option.{option_or}
use Rattle.std.proofs.lemmas.Grind.{flat_map-append}
use Rattle.std.proofs.lemmas.Bool.{cases_eq, eq-eqb, ne_eqb, and_parts, eqb-true, or_cases}
use Rattle.std.proofs.lemmas.List.{append-nil}
use Rattle.std.proofs.lemmas.List.Elements.{All-append, All-map, All-cons, All-nil, filter-append}
use Rattle.std.proofs.lemmas.List.Folds.{find-append}
use Rattle.sd_num.specs.Lists.{below, has}
use Rattle.sd_plan.specs.topo.Network.{Network, link_numbers, link_of, joins}
use Rattle.sd_planner.specs.declared.present.Neighbour.{Neighbour}
use Rattle.sd_plan.specs.declared.Absent.{Absent}
use Rattle.sd_plan.proofs.Numbered.{get_or-numbered, length-numbered}
use Rattle.sd_planner.specs.Usable.{takes_part, is_usable, links_between, link_between, neighbours_of}
use Rattle.sd_planner.specs.Neighbours.{all_neighbours}
use Rattle.sd_planner.proofs.Turned.{neighbour_over}

-- there are neighbours of each device
pub neighbours_count : (net : Network) (absent : Absent) → length (all_neighbours net absent) ≡ length net.devices
unfolding all_neighbours
neighbours_count net absent = length-numbered (neighbours_of net absent) (length net.devices)

-- those of a device
pub neighbours_at : (net : Network) (absent : Absent) (d : ℕ) → d < length net.devices → get_or (all_neighbours net absent) d [] ≡ neighbours_of net absent d
unfolding all_neighbours
neighbours_at net absent d within = get_or-numbered (neighbours_of net absent) (length net.devices) d [] within

-- what a neighbour of a device is: it leads to a device over a usable link that joins both
pub record IsNeighbourOf (net : Network) (absent : Absent) (d : ℕ) (neighbour : Neighbour) : Type 0 where
  pub device : neighbour.device < length net.devices
  pub link : neighbour.link < length net.links
  pub usable : is_usable net absent neighbour.link ≡ true
  pub joined : joins net neighbour.link d neighbour.device ≡ true

-- those that pass are numbers, and pass
all_passing : (P : ℕ → Type 0) (test : ℕ → Bool) (n : ℕ) → ((x : ℕ) → x < n → test x ≡ true → P x) → All P (filter test (below n))
all_passing P test zero each = All-nil P
all_passing P test (suc n) each =
    subst (All P) (sym (filter-append test (below n) (n ∷ [])))
    (All-append P (filter test (below n)) (filter test (n ∷ [])) (all_passing P test n (λ x within. each x (omega arith))) (by_test (test n) refl))
  where
    by_test : (b : Bool) → test n ≡ b → All P (cond b (n ∷ []) [])
    by_test true passes = All-cons P n [] (each n (omega arith) passes) (All-nil P)
    by_test false fails = All-nil P

-- what holds of each part holds of all
all_flat : {X : Type 0} (P : X → Type 0) (f : ℕ → List X) (n : ℕ) → ((y : ℕ) → y < n → All P (f y)) → All P (flat_map f (below n))
all_flat P f zero each = All-nil P
all_flat P f (suc n) each =
    subst (All P) (sym (flat_map-append f (below n) (n ∷ [])))
    (All-append P (flat_map f (below n)) (f n ++ []) (all_flat P f n (λ y within. each y (omega arith)))
    (subst (All P) (sym (append-nil (f n))) (each n (omega arith))))

-- so is each neighbour
pub neighbours_are : (net : Network) (absent : Absent) (d : ℕ) → All (IsNeighbourOf net absent d) (neighbours_of net absent d)
neighbours_are net absent d =
    all_flat (IsNeighbourOf net absent d) (λ y. map (neighbour_over y) (links_between net absent d y)) (length net.devices) (λ y within.
    All-map (IsNeighbourOf net absent d) (neighbour_over y) (links_between net absent d y)
    (all_passing (λ l. IsNeighbourOf net absent d (neighbour_over y l)) (λ l. is_usable net absent l && joins net l d y) (length net.links) (λ l inside passes.
    let (usable, joined) = and_parts (is_usable net absent l) (joins net l d y) passes in
    record { device = within; link = inside; usable = usable; joined = joined })))

-- both ends of a usable link take part
pub usable_ends : (net : Network) (absent : Absent) (l d y : ℕ) → is_usable net absent l ≡ true → joins net l d y ≡ true
    → (takes_part net absent d ≡ true) × (takes_part net absent y ≡ true)
usable_ends net absent l d y usable joined =
    let (front, second) =
    and_parts (not (has absent.links l) && takes_part net absent (link_of net l).end_a) (takes_part net absent (link_of net l).end_b) usable in
    let (present, first) = and_parts (not (has absent.links l)) (takes_part net absent (link_of net l).end_a) front in
    elim (or_cases (nat_eq (link_of net l).end_a d && nat_eq (link_of net l).end_b y)
    (nat_eq (link_of net l).end_a y && nat_eq (link_of net l).end_b d) joined) [
      | inl forth ↦
          (let (p, q) = and_parts (nat_eq (link_of net l).end_a d) (nat_eq (link_of net l).end_b y) forth in (
            subst (λ x. takes_part net absent x ≡ true) (eqb-true (link_of net l).end_a d p) first,
            subst (λ x. takes_part net absent x ≡ true)
                (eqb-true (link_of net l).end_b y q) second,
          ))
      | inr back ↦
          (let (p, q) = and_parts (nat_eq (link_of net l).end_a y) (nat_eq (link_of net l).end_b d) back in (
            subst (λ x. takes_part net absent x ≡ true) (eqb-true (link_of net l).end_b d q) second,
            subst (λ x. takes_part net absent x ≡ true)
                (eqb-true (link_of net l).end_a y p) first,
          ))
    ]

-- a neighbour to another device
other_first : (y z : ℕ) → (y ≡ z → ⊥) → (links : List ℕ) → find (λ (neighbour : Neighbour). nat_eq neighbour.device z) (map (neighbour_over y) links) ≡ None
other_first y z apart [] = refl
other_first y z apart (l ∷ links) = rw (ne_eqb y z apart) (other_first y z apart links)

-- the first of those to a device
same_first : (test : ℕ → Bool) (y : ℕ) (links : List ℕ)
    → find (λ (neighbour : Neighbour). nat_eq neighbour.device y) (map (neighbour_over y) (filter test links)) ≡ option_map (neighbour_over y) (find test links)
same_first test y [] = refl
same_first test y (l ∷ links) = by_test (test l) (same_first test y links)
  where
    by_test : (b : Bool)
        → find (λ (neighbour : Neighbour). nat_eq neighbour.device y) (map (neighbour_over y) (filter test links))
        ≡ option_map (neighbour_over y) (find test links)
        → find (λ (neighbour : Neighbour). nat_eq neighbour.device y) (map (neighbour_over y) (cond b (l ∷ filter test links) (filter test links)))
        ≡ option_map (neighbour_over y) (cond b (Some l) (find test links))
    by_test true rest = rw (eq-eqb y y refl) refl
    by_test false rest = rest

-- the first neighbour to a neighbour is over the lowest link
pub first_neighbour : (net : Network) (absent : Absent) (d y : ℕ) → y < length net.devices
    → find (λ (neighbour : Neighbour). nat_eq neighbour.device y) (neighbours_of net absent d)
    ≡ option_map (λ l. record { device = y; link = l }) (link_between net absent d y)
first_neighbour net absent d y within = by_count (length net.devices) within
  where
    part : ℕ → List Neighbour
    part = λ x. map (neighbour_over x) (links_between net absent d x)

    none : (n : ℕ) → n ≤ y → find (λ (neighbour : Neighbour). nat_eq neighbour.device y) (flat_map part (below n)) ≡ None
    none zero less = refl
    none (suc n) less =
        ap (find (λ (neighbour : Neighbour). nat_eq neighbour.device y))
        (flat_map-append part (below n) (n ∷ []) ∙ ap (λ xs. flat_map part (below n) ++ xs) (append-nil (part n)))
        ∙ find-append (λ (neighbour : Neighbour). nat_eq neighbour.device y) (flat_map part (below n)) (part n)
        ∙ rw (none n (omega arith)) (other_first n y (λ same. (omega arith)) (links_between net absent d n))

    wanted : Option Neighbour
    wanted = option_map (neighbour_over y) (link_between net absent d y)

    kept : (o : Option Neighbour) → option_or o None ≡ o
    kept None = refl
    kept (Some x) = refl

    by_count : (n : ℕ) → y < n → find (λ (neighbour : Neighbour). nat_eq neighbour.device y) (flat_map part (below n)) ≡ wanted
    by_count zero less = absurd (omega arith)
    by_count (suc n) less =
        ap (find (λ (neighbour : Neighbour). nat_eq neighbour.device y))
        (flat_map-append part (below n) (n ∷ []) ∙ ap (λ xs. flat_map part (below n) ++ xs) (append-nil (part n)))
        ∙ find-append (λ (neighbour : Neighbour). nat_eq neighbour.device y) (flat_map part (below n)) (part n)
        ∙ elim (cases_eq n y) [
          | inl same ↦
              (ap (λ o. option_or o (find (λ (neighbour : Neighbour). nat_eq neighbour.device y) (part n))) (none n (omega arith))
              ∙ ap (λ x. find (λ (neighbour : Neighbour). nat_eq neighbour.device y) (part x)) same
              ∙ same_first (λ l. is_usable net absent l && joins net l d y) y (link_numbers net))
          | inr apart ↦
              (ap (λ o. option_or (find (λ (neighbour : Neighbour). nat_eq neighbour.device y) (flat_map part (below n))) o)
              (other_first n y apart (links_between net absent d n))
              ∙ kept (find (λ (neighbour : Neighbour). nat_eq neighbour.device y) (flat_map part (below n)))
              ∙ by_count n (omega arith))
        ]

-- x stands in a list
abbrev pub StandsIn : {X : Type 0} → List X → X → Type 0
StandsIn xs x = (k : ℕ) × (slice_get xs k ≡ Some x)

-- what stands in one part stands in the whole
in_front : {X : Type 0} (xs ys : List X) (x : X) → StandsIn xs x → StandsIn (xs ++ ys) x
in_front [] ys x stands = absurd (cc (stands.1))
in_front (y ∷ xs) ys x (zero, at) = (0, at)
in_front (y ∷ xs) ys x (suc k, at) = let (i, there) = in_front xs ys x (k, at) in (suc i, there)

in_back : {X : Type 0} (xs ys : List X) (x : X) → StandsIn ys x → StandsIn (xs ++ ys) x
in_back [] ys x stands = stands
in_back (y ∷ xs) ys x stands = let (i, there) = in_back xs ys x stands in (suc i, there)

-- a number that passes stands among those that do
in_passing : (test : ℕ → Bool) (n x : ℕ) → x < n → test x ≡ true → StandsIn (filter test (below n)) x
in_passing test zero x within passes = absurd (omega arith)
in_passing test (suc n) x within passes =
    subst (λ xs. StandsIn xs x) (sym (filter-append test (below n) (n ∷ [])))
    (elim (cases_eq x n) [
      | inl same ↦ in_back (filter test (below n)) (filter test (n ∷ [])) x (subst (λ y. StandsIn (filter test (y ∷ [])) x) same (rw passes (0, refl)))
      | inr apart ↦ in_front (filter test (below n)) (filter test (n ∷ [])) x (in_passing test n x (omega arith) passes)
    ])

in_mapped : {X Y : Type 0} (f : X → Y) (xs : List X) (x : X) → StandsIn xs x → StandsIn (map f xs) (f x)
in_mapped f [] x stands = absurd (cc (stands.1))
in_mapped f (y ∷ xs) x (zero, at) = (0, cc)
in_mapped f (y ∷ xs) x (suc k, at) = let (i, there) = in_mapped f xs x (k, at) in (suc i, there)

in_flat : {X : Type 0} (f : ℕ → List X) (n y : ℕ) (x : X) → y < n → StandsIn (f y) x → StandsIn (flat_map f (below n)) x
in_flat f zero y x within stands = absurd (omega arith)
in_flat f (suc n) y x within stands =
    subst (λ xs. StandsIn xs x) (sym (flat_map-append f (below n) (n ∷ []) ∙ ap (λ xs. flat_map f (below n) ++ xs) (append-nil (f n))))
    (elim (cases_eq y n) [
      | inl same ↦ in_back (flat_map f (below n)) (f n) x (subst (λ z. StandsIn (f z) x) same stands)
      | inr apart ↦ in_front (flat_map f (below n)) (f n) x (in_flat f n y x (omega arith) stands)
    ])

-- over each usable link that joins there is a neighbour
pub neighbour_there : (net : Network) (absent : Absent) (d y l : ℕ) → y < length net.devices → l < length net.links → is_usable net absent l ≡ true
    → joins net l d y ≡ true
    → StandsIn (neighbours_of net absent d) (record { device = y; link = l })
neighbour_there net absent d y l within inside usable joined =
    in_flat (λ x. map (neighbour_over x) (links_between net absent d x)) (length net.devices) y (neighbour_over y l) within
    (in_mapped (neighbour_over y) (links_between net absent d y) l
    (in_passing (λ x. is_usable net absent x && joins net x d y) (length net.links) l inside (rw (usable, joined) refl)))

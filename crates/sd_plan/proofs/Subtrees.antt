-- Subtrees, one device and its children at a time, and how they are placed.
use Rattle.std.proofs.Common.{◌≡◌, ℕ, zero, suc, ◌+◌, ◌-◌, ◌<◌, ◌≤◌, Bool, true, false, ◌||◌, ◌⊎◌, inl, inr, List, [], ◌∷◌, ◌++◌, length, get_or, take, drop, set, flat_map, nat_eq, All, refl, sym, ap, ◌∙◌, subst, arith, length-append, append_assoc}
use Rattle.std.specs.List.{slice_range}
use Rattle.std.proofs.lemmas.Bool.{cases_eq, eq-eqb, ne_eqb}
use Rattle.std.proofs.lemmas.List.{length-set, get_or-set_same, get_or-set_other, take_more, take-append-le, drop_at, length_push, append-nil, get_or_read, take_all}
use Rattle.std.proofs.lemmas.List.Elements.{All-head, All-tail}
use Rattle.std.proofs.lemmas.List.Folds.{length-flat_map-take}
use Rattle.std.proofs.lemmas.Grind.{flat_map-append}
use Rattle.std.proofs.lemmas.Slice.{between_is, between_to_end}
use Rattle.sd_num.specs.Lists.{has}
use Rattle.sd_plan.specs.IndexedPlan.{no_span}
use Rattle.sd_plan.specs.Subtrees.{listed, subtree, IsWithin, IsSpan, ArePlaced}
use Rattle.sd_plan.specs.declared.index.Span.{Span}

-- what is within has a list
pub within_range : (lists : List (List ℕ)) (n d : ℕ) → IsWithin lists n d → d < length lists
unfolding IsWithin
within_range lists zero d within = within.0
within_range lists (suc n) d within = within.0

-- where there is a child something lies below
pub within_left : (lists : List (List ℕ)) (n d i : ℕ) → IsWithin lists n d → i < length (listed lists d) → 1 ≤ n
unfolding IsWithin
within_left lists zero d i within some = (let none = ap length within.1 in absurd (omega arith))
within_left lists (suc n) d i within some = omega arith

-- less lies below a child
pub within_child : (lists : List (List ℕ)) (n d i e : ℕ) → IsWithin lists n d → i < length (listed lists d)
    → IsWithin lists (n - 1) (get_or (listed lists d) i e)
unfolding IsWithin
within_child lists zero d i e within some = (let none = ap length within.1 in absurd (omega arith))
within_child lists (suc n) d i e within some = subst (λ m. IsWithin lists m (get_or (listed lists d) i e)) (one_less n) (within.1 i e some)
  where
    one_less : (n : ℕ) → n ≡ suc n - 1
    one_less n = omega arith

-- a subtree begins with its device, and then come those of its children
pub subtree_is : (lists : List (List ℕ)) (n d : ℕ) → IsWithin lists n d → subtree lists n d ≡ d ∷ flat_map (subtree lists (n - 1)) (listed lists d)
unfolding IsWithin subtree
subtree_is lists zero d within = ap (λ cs. d ∷ flat_map (subtree lists (0 - 1)) cs) (sym within.1)
subtree_is lists (suc n) d within = ap (λ m. d ∷ flat_map (subtree lists m) (listed lists d)) (one_less n)
  where
    one_less : (n : ℕ) → n ≡ suc n - 1
    one_less n = omega arith

-- what f and g give of each they give of all
same_flat : (f g : ℕ → List ℕ) (xs : List ℕ) → All (λ x. f x ≡ g x) xs → flat_map f xs ≡ flat_map g xs
same_flat f g [] same = refl
same_flat f g (x ∷ xs) same =
    ap (λ ys. ys ++ flat_map f xs) (All-head (λ x. f x ≡ g x) x xs same) ∙ ap (λ ys. g x ++ ys) (same_flat f g xs (All-tail (λ x. f x ≡ g x) x xs same))

-- it is the same for each number that is enough
pub subtree_same : (lists : List (List ℕ)) (n m d : ℕ) → IsWithin lists n d → IsWithin lists m d → subtree lists n d ≡ subtree lists m d
unfolding IsWithin subtree
subtree_same lists zero zero d one two = refl
subtree_same lists zero (suc m) d one two = ap (λ cs. d ∷ flat_map (subtree lists m) cs) (sym one.1)
subtree_same lists (suc n) zero d one two = ap (λ cs. d ∷ flat_map (subtree lists n) cs) two.1
subtree_same lists (suc n) (suc m) d one two =
    ap (λ xs. d ∷ xs)
    (same_flat (subtree lists n) (subtree lists m) (listed lists d)
    (λ k e inside. subtree_same lists n m (get_or (listed lists d) k e) (one.1 k e inside) (two.1 k e inside)))

-- what one of two lists has both have
pub has-append : (xs ys : List ℕ) (a : ℕ) → has (xs ++ ys) a ≡ (has xs a || has ys a)
has-append [] ys a = refl
has-append (x ∷ xs) ys a = ap (λ b. nat_eq a x || b) (has-append xs ys a) ∙ grouped (nat_eq a x) (has xs a) (has ys a)
  where
    grouped : (p q r : Bool) → (p || (q || r)) ≡ ((p || q) || r)
    grouped true q r = refl
    grouped false q r = refl

-- a part does not see what is added
part_before : (xs more : List ℕ) (from to : ℕ) → to ≤ length xs → slice_range (xs ++ more) from to ≡ slice_range xs from to
part_before xs more from to within = between_is (xs ++ more) from to ∙ ap (drop from) (take-append-le to xs more within) ∙ sym (between_is xs from to)

-- what is added is the last part
part_last : (xs more : List ℕ) → slice_range (xs ++ more) (length xs) (length (xs ++ more)) ≡ more
part_last xs more = between_to_end (xs ++ more) (length xs) (length (xs ++ more)) (omega arith) ∙ drop_at xs more (length xs) refl

-- a span stays right when more is added
span_kept : (lists : List (List ℕ)) (order more : List ℕ) (a : ℕ) (span : Span) → IsSpan lists order a span → IsSpan lists (order ++ more) a span
span_kept lists order more a span is = record {
  rising = is.rising;
  within = omega (arith, is.within, length-append order more);
  are = λ n within. part_before order more span.from span.to is.within ∙ is.are n within;
}

-- nothing is placed
pub placed_none : (lists : List (List ℕ)) (order : List ℕ) (spans : List Span) → ArePlaced lists [] order order spans spans
placed_none lists order spans = record { order = sym (append-nil order); size = refl; placed = λ a there. cc; others = λ a other. refl }

-- one after the other
pub placed_both : (lists : List (List ℕ)) (first second before between after : List ℕ) (old some new : List Span)
    → ArePlaced lists first before between old some → ArePlaced lists second between after some new → ArePlaced lists (first ++ second) before after old new
placed_both lists first second before between after old some new one two = record {
  order = two.order ∙ ap (λ xs. xs ++ second) one.order ∙ append_assoc before first second;
  size = two.size ∙ one.size;
  placed = λ a there. by_second a (has second a) refl (sym (has-append first second a) ∙ there);
  others = λ a other. (let (missed, none) = neither (has first a) (has second a) (sym (has-append first second a) ∙ other) in
      two.others a none ∙ one.others a missed);
}
  where
    neither : (p q : Bool) → (p || q) ≡ false → (p ≡ false) × (q ≡ false)
    neither true q none = cc
    neither false true none = cc
    neither false false none = (refl, refl)

    or_first : (p q : Bool) → (p || q) ≡ true → q ≡ false → p ≡ true
    or_first true q either other = refl
    or_first false q either other = cc

    by_second : (a : ℕ) (b : Bool) → has second a ≡ b → (has first a || has second a) ≡ true → IsSpan lists after a (get_or new a no_span)
    by_second a true there either = two.placed a there
    by_second a false other either =
        subst (λ (span : Span). IsSpan lists after a span) (sym (two.others a other))
        (subst (λ (xs : List ℕ). IsSpan lists xs a (get_or some a no_span)) (sym two.order)
        (span_kept lists between second a (get_or some a no_span) (one.placed a (or_first (has first a) (has second a) either other))))

-- one more of the children
pub placed_more : (lists : List (List ℕ)) (f : ℕ → List ℕ) (cs : List ℕ) (i : ℕ) (before between after : List ℕ) (old some new : List Span) → i < length cs
    → ArePlaced lists (flat_map f (take i cs)) before between old some → ArePlaced lists (f (get_or cs i 0)) between after some new
    → ArePlaced lists (flat_map f (take (i + 1) cs)) before after old new
placed_more lists f cs i before between after old some new within one two =
    let all : flat_map f (take (i + 1) cs) ≡ flat_map f (take i cs) ++ f (get_or cs i 0) =
    ap (flat_map f) (take_more cs i 0 within) ∙ flat_map-append f (take i cs) (get_or cs i 0 ∷ [])
    ∙ ap (λ xs. flat_map f (take i cs) ++ xs) (append-nil (f (get_or cs i 0)))
    in
    subst (λ (xs : List ℕ). ArePlaced lists xs before after old new) (sym all)
    (placed_both lists (flat_map f (take i cs)) (f (get_or cs i 0)) before between after old some new one two)

-- the device itself gets its span last
pub placed_itself : (lists : List (List ℕ)) (n d : ℕ) (before after : List ℕ) (old new : List Span) (from to : ℕ) → IsWithin lists n d → d < length old
    → from ≡ length before → to ≡ length after
    → ArePlaced lists (flat_map (subtree lists (n - 1)) (listed lists d)) (before ++ d ∷ []) after old new
    → ArePlaced lists (subtree lists n d) before after old (set new d (record { from = from; to = to }))
placed_itself lists n d before after old new from to within inside begins ends placed =
    subst (λ (xs : List ℕ). ArePlaced lists xs before after old (set new d span)) (sym whole) (record {
      order = all;
      size = length-set new d span ∙ placed.size;
      placed = λ a there. by_place a (cases_eq a d) there;
      others = λ a other. (let (apart, none) = neither (nat_eq a d) (has rest a) other in
          get_or-set_other new d a span no_span (λ same. absurd (cc (eq-eqb a d same, apart))) ∙ placed.others a none);
    })
  where
    span : Span
    span = record { from = from; to = to }

    rest : List ℕ
    rest = flat_map (subtree lists (n - 1)) (listed lists d)

    whole : subtree lists n d ≡ d ∷ rest
    whole = subtree_is lists n d within

    all : after ≡ before ++ (d ∷ rest)
    all = placed.order ∙ append_assoc before (d ∷ []) rest

    neither : (p q : Bool) → (p || q) ≡ false → (p ≡ false) × (q ≡ false)
    neither true q none = cc
    neither false true none = cc
    neither false false none = (refl, refl)

    part : slice_range after from to ≡ d ∷ rest
    part =
        ap (λ m. slice_range after m to) begins ∙ ap (λ m. slice_range after (length before) m) (ends ∙ ap length all)
        ∙ ap (λ xs. slice_range xs (length before) (length (before ++ (d ∷ rest)))) all
        ∙ part_last before (d ∷ rest)

    own : IsSpan lists after d span
    own = record {
      rising = omega (arith, ap length all, length-append before (d ∷ rest));
      within = omega arith;
      are = λ m enough. part ∙ sym whole ∙ subtree_same lists n m d within enough;
    }

    by_place : (a : ℕ) → (a ≡ d) ⊎ (a ≡ d → ⊥) → (nat_eq a d || has rest a) ≡ true → IsSpan lists after a (get_or (set new d span) a no_span)
    by_place a (inl same) there =
        subst (λ (x : ℕ). IsSpan lists after x (get_or (set new d span) x no_span)) (sym same)
        (subst (λ (s : Span). IsSpan lists after d s) (sym (get_or-set_same new d span no_span (omega (arith, placed.size)))) own)
    by_place a (inr apart) there =
        subst (λ (s : Span). IsSpan lists after a s) (sym (get_or-set_other new d a span no_span apart))
        (placed.placed a (ap (λ b. b || has rest a) (sym (ne_eqb a d apart)) ∙ there))

-- there is room for one more of the children
pub room_more : (lists : List (List ℕ)) (n d i : ℕ) (before between : List ℕ) (old new : List Span) → IsWithin lists n d → i < length (listed lists d)
    → ArePlaced lists (flat_map (subtree lists (n - 1)) (take i (listed lists d))) (before ++ d ∷ []) between old new
    → length between + length (subtree lists (n - 1) (get_or (listed lists d) i 0)) ≤ length before + length (subtree lists n d)
room_more lists n d i before between old new within some placed =
    let f : ℕ → List ℕ = subtree lists (n - 1) in
    omega (
      arith,
      length-flat_map-take f (listed lists d) i 0 some,
      ap length (subtree_is lists n d within),
      ap length placed.order,
      length-append (before ++ d ∷ [])
          (flat_map f (take i (listed lists d))),
      length_push before d,
    )

-- the children that are read
pub read_children : (lists : List (List ℕ)) (d : ℕ) (item below : List ℕ) → d < length lists → item ≡ get_or lists d item → below ≡ item
    → below ≡ listed lists d
read_children lists d item below within is same = same ∙ get_or_read lists d item within is []

-- all children are placed
pub placed_all : (lists : List (List ℕ)) (f : ℕ → List ℕ) (cs : List ℕ) (i : ℕ) (before after : List ℕ) (old new : List Span) → length cs ≤ i
    → ArePlaced lists (flat_map f (take i cs)) before after old new → ArePlaced lists (flat_map f cs) before after old new
placed_all lists f cs i before after old new past placed =
    subst (λ (xs : List ℕ). ArePlaced lists (flat_map f xs) before after old new) (take_all i cs past) placed

-- how long the order is then
pub length_all : (lists : List (List ℕ)) (n d : ℕ) (before after : List ℕ) (old new : List Span) → IsWithin lists n d
    → ArePlaced lists (flat_map (subtree lists (n - 1)) (listed lists d)) (before ++ d ∷ []) after old new
    → length after ≡ length before + length (subtree lists n d)
length_all lists n d before after old new within placed =
    omega (
      arith,
      ap length (subtree_is lists n d within),
      ap length placed.order,
      length-append (before ++ d ∷ [])
          (flat_map (subtree lists (n - 1)) (listed lists d)),
      length_push before d,
    )

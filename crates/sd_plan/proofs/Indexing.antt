-- The order, spans and lists that were made are an index of the plan.
use Rattle.std.proofs.Common.{◌≡◌, ℕ, ◌+◌, ◌-◌, ◌<◌, ◌≤◌, inl, inr, Bool, true, false, ◌&&◌, List, [], ◌∷◌, length, map, get_or, nat_le, nat_lt, Option, Some, None, ◌⊎◌, flat_map, replicate, IsTrue, refl, sym, ap, ◌∙◌, subst, arith}
use Rattle.std.specs.List.{slice_get, slice_range}
use Rattle.std.proofs.lemmas.Bool.{cases_Bool, and_parts, and_right, le-leb, lt-ltb, le-ltb, leb-true, ltb-true, false_from_ne_true}
use Rattle.std.proofs.lemmas.List.{length-replicate, get_or-replicate}
use Rattle.std.proofs.lemmas.Option.{slice_get_within, slice_get-get_or, get_or_from_slice_get}
use Rattle.sd_num.specs.Lists.{below, has}
use Rattle.sd_num.proofs.Shared.{part_length}
use Rattle.sd_num.specs.Counts.{one_if}
use Rattle.sd_plan.specs.topo.Network.{Network, device_numbers, link_numbers, Each}
use Rattle.sd_plan.specs.Plans.{Fits, is_member}
use Rattle.sd_plan.specs.Structure.{structure_breach}
use Rattle.sd_plan.specs.Walks.{on_walk}
use Rattle.sd_plan.specs.Joining.{part_of, AreJoined}
use Rattle.sd_plan.specs.IndexedPlan.{IsIndexOf, no_span, is_within, goes_over, carried_over, usable_ends}
use Rattle.sd_plan.specs.IndexView.{IsSomeBelow}
use Rattle.sd_plan.specs.Subtrees.{children, listed, subtree, IsWithin, IsSpan, ArePlaced}
use Rattle.sd_plan.specs.declared.End.{End}
use Rattle.sd_plan.specs.declared.Plan.{Plan}
use Rattle.sd_plan.specs.declared.index.Span.{Span}
use Rattle.sd_plan.proofs.Numbered.{numbered_is, get_or-numbered, length-numbered, found_passes}
use Rattle.sd_plan.proofs.Forest.{IsForest, forest_of, on_inside, on_member, on_root, rooted_member}
use Rattle.sd_plan.proofs.Subtrees.{subtree_is}
use Rattle.sd_plan.proofs.Times.{times, has_times, times_has, times_place, place_times, one_place, few, part_at}
use Rattle.sd_plan.proofs.Below.{AreChildren, times_below, within_depth}

-- the subtree of the root is as deep as the network allows
pub root_within : (net : Network) (plan : Plan) (lists : List (List ℕ)) (depth : ℕ) → Fits net plan → structure_breach net plan ≡ None
    → AreChildren net plan lists → depth ≡ net.params.depth → IsWithin lists depth plan.root
root_within net plan lists depth fits structured are same =
    within_depth net plan (forest_of net plan fits structured) lists are depth plan.root fits.root (omega arith)

-- a number that stands as often as 1 or 0
once : (b : Bool) (n : ℕ) → n ≡ one_if b → n ≤ 1
once true n is = omega arith
once false n is = omega arith

-- of what a subtree has
has_below : (net : Network) (plan : Plan) → IsForest net plan → (lists : List (List ℕ)) → AreChildren net plan lists → (n d x : ℕ) → IsWithin lists n d
    → d < length net.devices → has (subtree lists n d) x ≡ on_walk net plan x d
has_below net plan forest lists are n d x within inside = by_test (on_walk net plan x d) (times_below net plan forest lists are n d x within inside)
  where
    by_test : (b : Bool) → times x (subtree lists n d) ≡ one_if b → has (subtree lists n d) x ≡ b
    by_test true is = times_has (subtree lists n d) x (omega arith)
    by_test false is = false_from_ne_true (has (subtree lists n d) x) (λ there. (let some = has_times (subtree lists n d) x there in omega arith))

-- there are no more than devices
pub root_room : (net : Network) (plan : Plan) (lists : List (List ℕ)) (depth : ℕ) → Fits net plan → structure_breach net plan ≡ None
    → AreChildren net plan lists → depth ≡ net.params.depth
    → length (subtree lists depth plan.root) ≤ length net.devices
root_room net plan lists depth fits structured are same =
    let forest = forest_of net plan fits structured in
    let within = root_within net plan lists depth fits structured are same in
    few (subtree lists depth plan.root) (length net.devices)
    (λ x. once (on_walk net plan x plan.root) (times x (subtree lists depth plan.root))
    (times_below net plan forest lists are depth plan.root x within fits.root))
    (λ x there. on_inside net plan forest x plan.root fits.root (sym (has_below net plan forest lists are depth plan.root x within fits.root) ∙ there))

-- what was placed
record HasPlaces (net : Network) (plan : Plan) (lists : List (List ℕ)) (order : List ℕ) (spans : List Span) : Type 0 where
  children : AreChildren net plan lists
  whole : order ≡ subtree lists net.params.depth plan.root
  size : length spans ≡ length net.devices
  placed : (a : ℕ) → on_walk net plan a plan.root ≡ true → IsSpan lists order a (get_or spans a no_span)
  others : (a : ℕ) → a < length net.devices → on_walk net plan a plan.root ≡ false → get_or spans a no_span ≡ no_span

-- a member begins its span
begins : (net : Network) (plan : Plan) → IsForest net plan → (lists : List (List ℕ)) (order : List ℕ) (spans : List Span) → HasPlaces net plan lists order spans
    → (d : ℕ) → d < length net.devices → on_walk net plan d plan.root ≡ true → slice_get order (get_or spans d no_span).from ≡ Some d
begins net plan forest lists order spans places d within rooted =
    let span : Span = get_or spans d no_span in
    let is : IsSpan lists order d span = places.placed d rooted in
    let inside = within_depth net plan forest lists places.children net.params.depth d within (omega arith) in
    let part : slice_range order span.from span.to ≡ d ∷ flat_map (subtree lists (net.params.depth - 1)) (listed lists d) =
    is.are net.params.depth inside ∙ subtree_is lists net.params.depth d inside in
    let long = part_length order span.from span.to is.within in
    let some = ap length part in
    slice_get-get_or order span.from 0 (omega (arith, is.within))
    ∙ ap (λ x. Some x) (ap (λ n. get_or order n 0) (plus_none span.from) ∙ sym (part_at order span.from span.to 0 0 (omega arith))
    ∙ ap (λ xs. get_or xs 0 0) part)
  where
    plus_none : (n : ℕ) → n ≡ n + 0
    plus_none n = omega arith

-- a member has one place
place_is : (net : Network) (plan : Plan) → IsForest net plan → (lists : List (List ℕ)) (order : List ℕ) (spans : List Span)
    → HasPlaces net plan lists order spans
    → (i j x : ℕ) → slice_get order i ≡ Some x → slice_get order j ≡ Some x → i ≡ j
place_is net plan forest lists order spans places i j x first second =
    one_place order i j x
    (once (on_walk net plan x plan.root) (times x order)
    (ap (times x) places.whole
    ∙ times_below net plan forest lists places.children net.params.depth plan.root x
    (within_depth net plan forest lists places.children net.params.depth plan.root forest.root (omega arith)) forest.root))
    first second

-- what has a place is a member
place_member : (net : Network) (plan : Plan) → IsForest net plan → (lists : List (List ℕ)) (order : List ℕ) (spans : List Span)
    → HasPlaces net plan lists order spans
    → (i x : ℕ) → slice_get order i ≡ Some x → on_walk net plan x plan.root ≡ true
place_member net plan forest lists order spans places i x at =
    sym
    (has_below net plan forest lists places.children net.params.depth plan.root x
    (within_depth net plan forest lists places.children net.params.depth plan.root forest.root (omega arith)) forest.root)
    ∙ times_has (subtree lists net.params.depth plan.root) x (subst (λ (xs : List ℕ). 1 ≤ times x xs) places.whole (place_times order i x at))

-- the place of d is one of those below a just where its walk leads over a
below_is : (net : Network) (plan : Plan) → IsForest net plan → (lists : List (List ℕ)) (order : List ℕ) (spans : List Span)
    → HasPlaces net plan lists order spans
    → (d a : ℕ) → d < length net.devices → a < length net.devices → is_member plan d ≡ true
    → is_within (get_or spans a no_span) (get_or spans d no_span).from ≡ on_walk net plan d a
below_is net plan forest lists order spans places d a within inside member = by_root (cases_Bool (on_walk net plan a plan.root))
  where
    place : ℕ
    place = (get_or spans d no_span).from

    at_place : slice_get order place ≡ Some d
    at_place = begins net plan forest lists order spans places d within (on_root net plan forest d within member)

    by_root : (on_walk net plan a plan.root ≡ true) ⊎ (on_walk net plan a plan.root ≡ false) → is_within (get_or spans a no_span) place ≡ on_walk net plan d a
    by_root (inr off) =
        ap (λ s. is_within s place) (places.others a inside off)
        ∙ and_right (nat_le 0 place) (nat_lt place 0) (le-ltb place 0 (omega arith))
        ∙ sym
        (false_from_ne_true (on_walk net plan d a) (λ on. absurd (cc (off, on_root net plan forest a inside (on_member net plan forest a d within member on)))))
    by_root (inl rooted) = by_on (cases_Bool (on_walk net plan d a))
      where
        span : Span
        span = get_or spans a no_span

        is : IsSpan lists order a span
        is = places.placed a rooted

        deep : IsWithin lists net.params.depth a
        deep = within_depth net plan forest lists places.children net.params.depth a inside (omega arith)

        long : length (slice_range order span.from span.to) ≡ span.to - span.from
        long = part_length order span.from span.to is.within

        has_part : has (slice_range order span.from span.to) d ≡ on_walk net plan d a
        has_part = ap (λ xs. has xs d) (is.are net.params.depth deep) ∙ has_below net plan forest lists places.children net.params.depth a d deep inside

        by_on : (on_walk net plan d a ≡ true) ⊎ (on_walk net plan d a ≡ false) → is_within span place ≡ on_walk net plan d a
        by_on (inl on) =
            let (k, at) = times_place (slice_range order span.from span.to) d (has_times (slice_range order span.from span.to) d (has_part ∙ on)) in
            let less = slice_get_within (slice_range order span.from span.to) k d at in
            let there : slice_get order (span.from + k) ≡ Some d =
            slice_get-get_or order (span.from + k) 0 (omega (arith, is.within, long, less))
            ∙ ap (λ x. Some x) (sym (part_at order span.from span.to k 0 (omega (arith, long, less)))
            ∙ get_or_from_slice_get (slice_range order span.from span.to) k d 0 at)
            in
            let same : place ≡ span.from + k = place_is net plan forest lists order spans places place (span.from + k) d at_place there in
            ap (λ b. b && nat_lt place span.to) (le-leb span.from place (omega arith)) ∙ lt-ltb place span.to (omega (arith, long, less)) ∙ sym on
        by_on (inr off) =
            false_from_ne_true (is_within span place) (λ stands.
            let (low, high) = and_parts (nat_le span.from place) (nat_lt place span.to) stands in
            let least : span.from ≤ place = leb-true span.from place low in
            let most : place < span.to = ltb-true place span.to high in
            let k : ℕ = place - span.from in
            let there : slice_get (slice_range order span.from span.to) (place - span.from) ≡ Some d =
            slice_get-get_or (slice_range order span.from span.to) (place - span.from) 0 (omega (arith, long, least, most))
            ∙ ap (λ x. Some x)
            (part_at order span.from span.to (place - span.from) 0 (omega (arith, least, most)) ∙ ap (λ n. get_or order n 0) (again span.from place least)
            ∙ get_or_from_slice_get order place d 0 at_place)
            in
            absurd (cc (
              off,
              has_part,
              times_has (slice_range order span.from span.to) d
                  (place_times (slice_range order span.from span.to) (place - span.from) d there),
            )))
            ∙ sym off
          where
            again : (a b : ℕ) → a ≤ b → a + (b - a) ≡ b
            again a b less = omega arith

-- all that was made
pub index_is : (net : Network) (plan : Plan) (lists : List (List ℕ)) (depth : ℕ) (order : List ℕ) (spans : List Span) (carried : List (Option ℕ))
    (usable : List (List End))
    → Fits net plan → structure_breach net plan ≡ None → AreChildren net plan lists → depth ≡ net.params.depth
    → ArePlaced lists (subtree lists depth plan.root) [] order (replicate (length lists) no_span) spans
    → carried ≡ map (carried_over net plan) (link_numbers net) → usable ≡ map (usable_ends net plan) (device_numbers net)
    → IsIndexOf net plan (record { order = order; spans = spans; carried = carried; usable = usable; backup_root = plan.backup_root })
index_is net plan lists depth order spans carried usable fits structured are same placed links ends = record {
  fits = fits;
  structured = structured;
  backup_root = refl;
  spans = places.size;
  carried = links;
  usable = ends;
  within = within;
  placed = λ d inside member. begins net plan forest lists order spans places d inside (on_root net plan forest d inside member);
  listed = listed_member;
  below = λ d a inside there member. below_is net plan forest lists order spans places d a inside there member;
}
  where
    forest : IsForest net plan
    forest = forest_of net plan fits structured

    count : length lists ≡ length net.devices
    count = ap length are ∙ length-numbered (children net plan) (length net.devices)

    deep : IsWithin lists depth plan.root
    deep = root_within net plan lists depth fits structured are same

    places : HasPlaces net plan lists order spans
    places = record {
      children = are;
      whole = placed.order ∙ ap (λ n. subtree lists n plan.root) same;
      size = placed.size ∙ length-replicate (length lists) no_span ∙ count;
      placed = λ a rooted. placed.placed a (has_below net plan forest lists are depth plan.root a deep fits.root ∙ rooted);
      others = λ a inside off. placed.others a (has_below net plan forest lists are depth plan.root a deep fits.root ∙ off)
          ∙ get_or-replicate (length lists) a no_span no_span (omega (arith, count));
    }

    within : (a : ℕ) → a < length net.devices → ((get_or spans a no_span).from ≤ (get_or spans a no_span).to) × ((get_or spans a no_span).to ≤ length order)
    within a inside =
        elim (cases_Bool (on_walk net plan a plan.root)) [
          | inl rooted ↦ (let is = places.placed a rooted in (is.rising, is.within))
          | inr off ↦
              (let none = places.others a inside off in
              (subst (λ (s : Span). s.from ≤ s.to) (sym none) (omega arith), subst (λ (s : Span). s.to ≤ length order) (sym none) (omega arith)))
        ]

    listed_member : (i d : ℕ) → slice_get order i ≡ Some d → (d < length net.devices) × IsTrue (is_member plan d) × ((get_or spans d no_span).from ≡ i)
    listed_member i d at =
        let rooted = place_member net plan forest lists order spans places i d at in
        let inside = on_inside net plan forest d plan.root forest.root rooted in (
          inside,
          rooted_member net plan forest d inside rooted,
          place_is net plan forest lists order spans places (get_or spans d no_span).from i d
              (begins net plan forest lists order spans places d inside rooted) at,
        )

-- the parts of joined lists are these
pub parts_are : (f : ℕ → List End) (n : ℕ) (rows : List (List End)) (ends : List End) (offsets : List ℕ) → rows ≡ map f (below n)
    → AreJoined rows (length rows) ends offsets → map (part_of ends offsets) (below n) ≡ map f (below n)
parts_are f n rows ends offsets are joined =
    let size : length rows ≡ n = ap length are ∙ length-numbered f n in
    numbered_is f n [] (map (part_of ends offsets) (below n)) (length-numbered (part_of ends offsets) n) (λ d within.
    get_or-numbered (part_of ends offsets) n d [] within ∙ joined.each d (omega arith) ∙ ap (λ xs. get_or xs d []) are ∙ get_or-numbered f n d [] within)

-- what links carry are devices
pub carried_devices : (net : Network) (plan : Plan) (carried : List (Option ℕ)) (n : ℕ) → carried ≡ map (carried_over net plan) (link_numbers net)
    → n ≡ length net.devices → Each (IsSomeBelow n) carried
carried_devices net plan carried n are same i found at = by_found found refl
  where
    is : found ≡ carried_over net plan i
    is =
        let within = slice_get_within carried i found at in
        let size = ap length are ∙ length-numbered (carried_over net plan) (length net.links) in
        sym (get_or_from_slice_get carried i found None at) ∙ ap (λ xs. get_or xs i None) are
        ∙ get_or-numbered (carried_over net plan) (length net.links) i None (omega arith)

    by_found : (o : Option ℕ) → found ≡ o → IsSomeBelow n o
    by_found None none = tt
    by_found (Some child) some = let less = (found_passes (goes_over plan i) (length net.devices) child (sym is ∙ some)).0 in omega (arith, same)

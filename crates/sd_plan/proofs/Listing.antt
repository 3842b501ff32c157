-- Lists by device and link that grow by one number at a time.
use Rattle.std.proofs.Common.{◌≡◌, ◌≢◌, ℕ, suc, ◌+◌, ◌<◌, ◌≤◌, ◌⊎◌, inl, inr, Bool, true, false, ◌||◌, ◌&&◌, not, cond, List, [], ◌∷◌, ◌++◌, length, map, filter, filter_map, find, get_or, take, drop, nat_eq, Option, Some, None, if◌then◌else◌, IfSome, replicate, refl, sym, ap, ◌∙◌, subst, arith, append_assoc}
use Rattle.std.specs.Option.{option_or}
use Rattle.std.proofs.lemmas.Bool.{cases_eq, eq-eqb, ne_eqb, false_from_ne_true, and_left}
use Rattle.std.proofs.lemmas.List.{get_or-replicate, length-replicate, take_all, drop_all, append-nil, get_or_read}
use Rattle.std.proofs.lemmas.List.Elements.{filter-append}
use Rattle.std.proofs.lemmas.List.Folds.{find-append}
use Rattle.sd_num.specs.Lists.{below, has}
use Rattle.sd_num.proofs.Firsts.{find_below_none}
use Rattle.sd_plan.specs.topo.Network.{Network, device_numbers, link_numbers, link_of}
use Rattle.sd_plan.specs.topo.Limits.{IsNetwork}
use Rattle.sd_plan.specs.topo.Places.{is_end_of}
use Rattle.sd_plan.specs.declared.topo.LinkEntry.{LinkEntry}
use Rattle.sd_plan.proofs.topo.Laws.{link_law}
use Rattle.sd_plan.specs.Plans.{Fits, IsHop, is_member, is_present, primary_of}
use Rattle.sd_plan.specs.IndexedPlan.{goes_over, usable_end, other_end}
use Rattle.sd_plan.specs.Subtrees.{is_child, children_before, child_below, HasParentBelow}
use Rattle.sd_plan.specs.Usable.{usable_before, usable_below}
use Rattle.sd_plan.specs.declared.Hop.{Hop}
use Rattle.sd_plan.specs.declared.End.{End}
use Rattle.sd_plan.specs.declared.Plan.{Plan}
use Rattle.sd_plan.proofs.Forest.{IsForest, one_over_link}
use Rattle.sd_plan.proofs.Numbered.{numbered_is, get_or-numbered, length-numbered, filtered_more}
use Rattle.sd_plan.proofs.Steps.{primary_within}
use Rattle.sd_plan.proofs.Over.{over as end_to}

-- lists by number, each with a little more
pub rows_grown : {X : Type 0} (f : ℕ → List X) (g : ℕ → List X) (add : ℕ → List X) (count : ℕ) (old new : List (List X)) → length new ≡ length old
    → old ≡ map f (below count)
    → ((d : ℕ) → d < length old → get_or new d [] ≡ get_or old d [] ++ add d) → ((d : ℕ) → d < count → g d ≡ f d ++ add d) → new ≡ map g (below count)
rows_grown f g add count old new same before each grown =
    let size : length old ≡ count = ap length before ∙ length-numbered f count in
    numbered_is g count [] new (same ∙ size) (λ d within.
    each d (omega arith) ∙ ap (λ xs. xs ++ add d) (ap (λ xs. get_or xs d []) before ∙ get_or-numbered f count d [] within) ∙ sym (grown d within))

-- empty lists by number
pub rows_empty : {X : Type 0} (f : ℕ → List X) (count : ℕ) → ((d : ℕ) → d < count → f d ≡ []) → replicate count [] ≡ map f (below count)
rows_empty f count none =
    numbered_is f count [] (replicate count []) (length-replicate count []) (λ d within. get_or-replicate count d [] [] within ∙ sym (none d within))

-- one more child
pub children_grown : (plan : Plan) (n d : ℕ) → children_before plan (n + 1) d ≡ children_before plan n d ++ child_below plan n d
children_grown plan n d = ap (λ m. filter (is_child plan d) (below m)) (one_more n) ∙ filter-append (is_child plan d) (below n) (n ∷ [])
  where
    one_more : (n : ℕ) → n + 1 ≡ suc n
    one_more n = omega arith

-- a primary parent is a device
pub has_parent : (net : Network) (plan : Plan) (c count : ℕ) → Fits net plan → count ≡ length net.devices → HasParentBelow count plan c
has_parent net plan c count fits size = by_hop (primary_of plan c) (λ hop is. primary_within net plan c hop fits.rows is)
  where
    by_hop : (o : Option Hop) → ((hop : Hop) → o ≡ Some hop → IsHop net hop) → IfSome o (λ hop. hop.parent < count)
    by_hop None each = tt
    by_hop (Some hop) each = let here : hop.parent < length net.devices = (each hop refl).0 in omega arith

-- its link is one of the network
pub has_link_within : (net : Network) (plan : Plan) (c count : ℕ) → Fits net plan → count ≡ length net.links
    → IfSome (primary_of plan c) (λ hop. hop.link < count)
has_link_within net plan c count fits size = by_hop (primary_of plan c) (λ hop is. primary_within net plan c hop fits.rows is)
  where
    by_hop : (o : Option Hop) → ((hop : Hop) → o ≡ Some hop → IsHop net hop) → IfSome o (λ hop. hop.link < count)
    by_hop None each = tt
    by_hop (Some hop) each = let here : hop.link < length net.links = (each hop refl).1 in omega arith

-- one more device that is carried
pub carried_grown : (net : Network) (plan : Plan) → IsForest net plan → (d : ℕ) (old new : List (Option ℕ)) → d < length net.devices → length new ≡ length old
    → old ≡ map (λ l. find (goes_over plan l) (below d)) (link_numbers net)
    → ((l : ℕ) → l < length old → get_or new l None ≡ (if goes_over plan l d then Some d else get_or old l None))
    → new ≡ map (λ l. find (goes_over plan l) (below (d + 1))) (link_numbers net)
carried_grown net plan forest d old new within same before each =
    let size : length old ≡ length net.links = ap length before ∙ length-numbered (λ l. find (goes_over plan l) (below d)) (length net.links) in
    numbered_is (λ l. find (goes_over plan l) (below (d + 1))) (length net.links) None new (same ∙ size) (λ l inside.
    each l (omega arith)
    ∙ ap (λ o. if goes_over plan l d then Some d else o) (ap (λ xs. get_or xs l None) before
    ∙ get_or-numbered (λ l. find (goes_over plan l) (below d)) (length net.links) l None inside)
    ∙ by_test l (goes_over plan l d) refl
    ∙ sym (ap (λ m. find (goes_over plan l) (below m)) (one_more d) ∙ find-append (goes_over plan l) (below d) (d ∷ [])))
  where
    one_more : (n : ℕ) → n + 1 ≡ suc n
    one_more n = omega arith

    last : (o : Option ℕ) → o ≡ option_or o None
    last None = refl
    last (Some x) = refl

    by_test : (l : ℕ) (b : Bool) → goes_over plan l d ≡ b
        → (if b then Some d else find (goes_over plan l) (below d)) ≡ option_or (find (goes_over plan l) (below d)) (cond b (Some d) None)
    by_test l true over =
        sym
        (ap (λ o. option_or o (Some d))
        (find_below_none (goes_over plan l) d (λ x less.
        false_from_ne_true (goes_over plan l x) (λ also. (let equal = one_over_link net plan forest l x d (omega arith) within also over in omega arith)))))
    by_test l false other = last (find (goes_over plan l) (below d))

-- before the first device nothing is carried
pub carried_none : (net : Network) (plan : Plan) (count : ℕ) → count ≡ length net.links
    → replicate count None ≡ map (λ l. find (goes_over plan l) (below 0)) (link_numbers net)
carried_none net plan count size =
    numbered_is (λ l. find (goes_over plan l) (below 0)) (length net.links) None (replicate count None) (length-replicate count None ∙ size) (λ l within.
    get_or-replicate count l None None (omega arith))

-- all are struck out
pub all_struck : (absent : List ℕ) (i count : ℕ) (flags : List Bool) → length absent ≤ i → length flags ≡ count
    → ((k : ℕ) → k < count → get_or flags k true ≡ not (has (take i absent) k)) → flags ≡ map (λ x. not (has absent x)) (below count)
all_struck absent i count flags past size each =
    numbered_is (λ x. not (has absent x)) count true flags size (λ k within. each k within ∙ ap (λ xs. not (has xs k)) (take_all i absent past))

-- what is usable over a link with two ends
usable_over : (net : Network) (plan : Plan) (l d : ℕ) → (link_of net l).end_a ≢ (link_of net l).end_b → is_present plan l ≡ true
    → filter_map (usable_end net plan d) (l ∷ []) ≡ usable_below plan l (link_of net l).end_a (link_of net l).end_b d
    ++ usable_below plan l (link_of net l).end_b (link_of net l).end_a d
usable_over net plan l d apart present =
    ap (λ p. filter_map (λ (x : ℕ). if is_end_of (link_of net l) d && p
    && is_member plan (other_end (link_of net l) d) then Some (end_to x (other_end (link_of net l) d)) else None) (l ∷ [])) present
    ∙ by_ends (link_of net l).end_a (link_of net l).end_b (nat_eq d (link_of net l).end_a) (nat_eq d (link_of net l).end_b)
    (not_both (cases_eq d (link_of net l).end_a))
  where
    not_both : (d ≡ (link_of net l).end_a) ⊎ (d ≡ (link_of net l).end_a → ⊥) → (nat_eq d (link_of net l).end_a && nat_eq d (link_of net l).end_b) ≡ false
    not_both (inl same) =
        ap (λ b. b && nat_eq d (link_of net l).end_b) (eq-eqb d (link_of net l).end_a same) ∙ ne_eqb d (link_of net l).end_b (λ also. apart (sym same ∙ also))
    not_both (inr other) = and_left (nat_eq d (link_of net l).end_a) (nat_eq d (link_of net l).end_b) (ne_eqb d (link_of net l).end_a other)

    as_list : (c : ℕ) (member : Bool) → filter_map (λ (x : ℕ). if member then Some (end_to x c) else None) (l ∷ []) ≡ (if member then end_to l c ∷ [] else [])
    as_list c true = refl
    as_list c false = refl

    alone : (c : ℕ) (member : Bool)
        → filter_map (λ (x : ℕ). if member then Some (end_to x c) else None) (l ∷ []) ≡ (if member then end_to l c ∷ [] else []) ++ []
    alone c true = refl
    alone c false = refl

    by_ends : (a b : ℕ) (at_a at_b : Bool) → (at_a && at_b) ≡ false
        → filter_map (λ (x : ℕ). if (at_a || at_b) && true && is_member plan (if at_a then b else a) then Some (end_to x (if at_a then b else a)) else None)
        (l ∷ [])
        ≡ (if at_a && is_member plan b then end_to l b ∷ [] else []) ++ (if at_b && is_member plan a then end_to l a ∷ [] else [])
    by_ends a b true true both = cc
    by_ends a b true false both = alone b (is_member plan b)
    by_ends a b false true both = as_list a (is_member plan a)
    by_ends a b false false both = refl

-- one more link that is usable
pub usable_grown : (net : Network) (plan : Plan) (l d : ℕ) → IsNetwork net → l < length net.links → is_present plan l ≡ true
    → usable_before net plan (l + 1) d
    ≡ (usable_before net plan l d ++ usable_below plan l (link_of net l).end_a (link_of net l).end_b d)
    ++ usable_below plan l (link_of net l).end_b (link_of net l).end_a d
usable_grown net plan l d law within present =
    filtered_more (usable_end net plan d) l
    ∙ ap (λ more. usable_before net plan l d ++ more) (usable_over net plan l d (link_law net l law within).apart present)
    ∙ sym (append_assoc (usable_before net plan l d) (usable_below plan l (link_of net l).end_a (link_of net l).end_b d)
    (usable_below plan l (link_of net l).end_b (link_of net l).end_a d))

-- a link that is left out is not
pub usable_same : (net : Network) (plan : Plan) (l d : ℕ) → is_present plan l ≡ false → usable_before net plan (l + 1) d ≡ usable_before net plan l d ++ []
usable_same net plan l d absent = filtered_more (usable_end net plan d) l
    ∙ ap (λ more. usable_before net plan l d ++ more) (by_test (is_end_of (link_of net l) d) absent)
  where
    by_test : (b : Bool) → is_present plan l ≡ false
        → filter_map
        (λ (x : ℕ). if b && is_present plan l && is_member plan (other_end (link_of net l) d) then Some (end_to x (other_end (link_of net l) d)) else None)
        (l ∷ []) ≡ []
    by_test true absent =
        ap (λ p. filter_map (λ (x : ℕ). if p && is_member plan (other_end (link_of net l) d) then Some (end_to x (other_end (link_of net l) d)) else None)
        (l ∷ [])) absent
    by_test false absent = refl

-- what both ends of a link make usable
pub usable_rows : (net : Network) (plan : Plan) (l : ℕ) (link : LinkEntry) (rows some all : List (List End)) → IsNetwork net → l < length net.links
    → is_present plan l ≡ true → link ≡ link_of net l
    → rows ≡ map (usable_before net plan l) (device_numbers net) → length some ≡ length rows → length all ≡ length some
    → ((d : ℕ) → d < length rows → get_or some d [] ≡ get_or rows d [] ++ usable_below plan l link.end_a link.end_b d)
    → ((d : ℕ) → d < length some → get_or all d [] ≡ get_or some d [] ++ usable_below plan l link.end_b link.end_a d)
    → all ≡ map (usable_before net plan (l + 1)) (device_numbers net)
usable_rows net plan l link rows some all law within present is before first_size second_size first second =
    let count = length net.devices in
    let half : ℕ → List End = λ d. usable_before net plan l d ++ usable_below plan l link.end_a link.end_b d in
    rows_grown half (usable_before net plan (l + 1)) (usable_below plan l link.end_b link.end_a) count some all second_size
    (rows_grown (usable_before net plan l) half (usable_below plan l link.end_a link.end_b) count rows some first_size before first (λ d inside. refl)) second
    (λ d inside.
    subst (λ (e : LinkEntry). usable_before net plan (l + 1) d ≡ (usable_before net plan l d ++ usable_below plan l e.end_a e.end_b d)
    ++ usable_below plan l e.end_b e.end_a d) (sym is)
    (usable_grown net plan l d law within present))

-- a flag that is read
pub flag_read : (absent seen : List ℕ) (count l : ℕ) (flags : List Bool) (flag : Bool) → flags ≡ map (λ x. not (has absent x)) (below count) → absent ≡ seen
    → l < count → flag ≡ get_or flags l flag → flag ≡ not (has seen l)
flag_read absent seen count l flags flag are same within is =
    let size : length flags ≡ count = ap length are ∙ length-numbered (λ x. not (has absent x)) count in
    get_or_read flags l flag (omega arith) is true ∙ ap (λ xs. get_or xs l true) are ∙ get_or-numbered (λ x. not (has absent x)) count l true within
    ∙ ap (λ xs. not (has xs l)) same

-- what a slice that was lent holds is the list again
pub written : {X : Type 0} (n : ℕ) (new old : List X) → n ≡ length old → length new ≡ length old → take n (new ++ drop (length new) old) ≡ new
written n new old size same = ap (λ xs. take n (new ++ xs)) (drop_all (length new) old (omega arith)) ∙ ap (take n) (append-nil new)
    ∙ take_all n new (omega arith)

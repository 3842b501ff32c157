-- A search over links other than one meets what these join to the first device, and so tells whether the one is a bridge.
use Rattle.std.proofs.Common.{◌≡◌, ℕ, ◌+◌, ◌<◌, ◌≤◌, ◌⊎◌, inl, inr, Bool, true, false, not, List, [], ◌∷◌, ◌++◌, length, find, nat_eq, if◌then◌else◌, Option, Some, None, refl, sym, ap, ◌∙◌, subst, arith, slice_get, get_or, length-append}
use Rattle.std.specs.Cmp.{nat_eq_equiv}
use Rattle.std.specs.List.{IsDistinct}
use Rattle.std.proofs.lemmas.Bool.{both_ways, cases_Bool, cases_lt, eq-eqb, eqb-true, false_from_ne_true, not-false, not-true, or_cases}
use Rattle.std.proofs.lemmas.Map.Keys.{IsDistinct-push}
use Rattle.std.proofs.lemmas.Map.Steps.{le-length_from_below, length-le_from_distinct_below}
use Rattle.std.proofs.lemmas.Option.{same_Some, slice_get-get_or, slice_get_within}
use Rattle.sd_num.specs.Lists.{below, has}
use Rattle.sd_num.proofs.Places.{at_before, at_has, has_at, has_before, has_cases, has_last}
use Rattle.sd_plan.specs.topo.Network.{Network}
use Rattle.sd_plan.specs.topo.Joined.{here, over}
use Rattle.sd_plan.specs.topo.Limits.{IsNetwork}
use Rattle.sd_plan.specs.domain.NumberSets.{with_number}
use Rattle.sd_plan.specs.Plans.{nothing_absent}
use Rattle.sd_plan.specs.declared.Absent.{Absent}
use Rattle.sd_plan.proofs.Numbered.{found_passes, none_found}
use Rattle.sd_planner.specs.Usable.{neighbours_of}
use Rattle.sd_planner.specs.declared.present.Neighbour.{Neighbour}
use Rattle.sd_planner.proofs.Adjacency.{IsNeighbourOf, neighbours_are}
use Rattle.sd_planner.proofs.Elements.{all_at}
use Rattle.sd_planner.proofs.Walks.{joins_swap}
use Rattle.sd_checker.specs.check_reach.Reached.{Grows}
use Rattle.sd_why.specs.Bridges.{IsAround, IsBeside, IsBridge, IsSearch, JoinedWithout}
use Rattle.sd_why.proofs.Joining.{next_within}
use Rattle.sd_why.proofs.Neighbours.{neighbour_at}

-- a set and one more

number_has : (xs : List ℕ) (n x : ℕ) → (has xs x ≡ true) ⊎ (x ≡ n) → has (with_number xs n) x ≡ true
number_has xs n x (inl there) = by (has xs n)
  where
    by : (b : Bool) → has (if b then xs else xs ++ n ∷ []) x ≡ true
    by true = there
    by false = has_before xs n x there
number_has xs n x (inr same) = subst (λ y. has (with_number xs n) y ≡ true) (sym same) (by (has xs n) refl)
  where
    by : (b : Bool) → has xs n ≡ b → has (if b then xs else xs ++ n ∷ []) n ≡ true
    by true is = is
    by false is = has_last xs n

grows_more : (P : ℕ → Type 0) (old new : List ℕ) (n : ℕ) → P n → Grows old new P → Grows old (with_number new n) P
grows_more P old new n passes grows = by (has new n)
  where
    by : (b : Bool) → Grows old (if b then new else new ++ n ∷ []) P
    by true = grows
    by false = record {
      kept = λ i x at. at_before new n i x (grows.kept i x at);
      had = λ x there. has_before new n x (grows.had x there);
      added = λ x there. elim (has_cases new n x there) [
        | inl before ↦ grows.added x before
        | inr last ↦ inr (subst P (sym last) passes)
      ];
    }

-- two ways make one, and each can be turned round
joined_on : (net : Network) (l a b c : ℕ) → JoinedWithout net l a b → JoinedWithout net l b c → JoinedWithout net l a c
joined_on net l a b c here rest = rest
joined_on net l a b c (over {e = e} k within crosses joined passes more) rest = over k within crosses joined passes (joined_on net l e b c more rest)

joined_back : (net : Network) (l a b : ℕ) → JoinedWithout net l a b → JoinedWithout net l b a
joined_back net l a b here = here
joined_back net l a b (over {e = e} k within crosses joined passes more) =
    joined_on net l b e a (joined_back net l e b more) (over k within crosses (joins_swap net k e a ∙ joined) refl here)

module _ (net : Network) (l : ℕ) where
  one_link : (d e : ℕ) → IsBeside net l d e → JoinedWithout net l d e
  one_link d e beside = over beside.over beside.within beside.other beside.joined refl here

  module _ (d : ℕ) where
    pub around_start : (neighbours : List Neighbour) (old : List ℕ) → IsAround net l d 0 neighbours old old
    around_start neighbours old = record {
      grows = record { kept = λ i x at. at; had = λ x there. there; added = λ x there. inl there };
      met = λ k neighbour less. absurd (omega arith);
    }

    module _ (absent : Absent) (neighbours : List Neighbour) (are : neighbours ≡ neighbours_of net absent d) (i : ℕ) (old new : List ℕ) where
      -- a neighbour over another link
      pub around_over : (neighbour : Neighbour) → slice_get neighbours i ≡ Some neighbour → nat_eq neighbour.link l ≡ false
          → IsAround net l d i neighbours old new → IsAround net l d (i + 1) neighbours old (with_number new neighbour.device)
      around_over neighbour at other around = record {
        grows = grows_more (IsBeside net l d) old new neighbour.device beside around.grows;
        met = λ k one less is differs. elim (cases_lt k i) [
          | inl early ↦ number_has new neighbour.device one.device (inl (around.met k one early is differs))
          | inr late ↦
              (let same : k ≡ i = omega (arith, less, late) in
              let this : neighbour ≡ one = same_Some neighbour one (sym at ∙ subst (λ (n : ℕ). slice_get neighbours n ≡ Some one) same is) in
              subst (λ (x : Neighbour). has (with_number new neighbour.device) x.device ≡ true) this (number_has new neighbour.device neighbour.device (inr refl)))
        ];
      }
        where
          beside : IsBeside net l d neighbour.device
          beside =
              let is = all_at (IsNeighbourOf net absent d) (neighbours_of net absent d) i neighbour (neighbours_are net absent d)
              (subst (λ (xs : List Neighbour). slice_get xs i ≡ Some neighbour) are at) in
              record {
                over = neighbour.link;
                within = is.link;
                other = ap not (false_from_ne_true (nat_eq l neighbour.link) (λ same.
                    both_ways (nat_eq neighbour.link l) other (eq-eqb neighbour.link l (sym (eqb-true l neighbour.link same)))));
                joined = is.joined;
              }

      -- one over the link itself
      pub around_past : (neighbour : Neighbour) → slice_get neighbours i ≡ Some neighbour → nat_eq neighbour.link l ≡ true
          → IsAround net l d i neighbours old new → IsAround net l d (i + 1) neighbours old new
      around_past neighbour at same around = record {
        grows = around.grows;
        met = λ k one less is differs. elim (cases_lt k i) [
          | inl early ↦ around.met k one early is differs
          | inr late ↦
              (let here : k ≡ i = omega (arith, less, late) in
              let this : neighbour ≡ one = same_Some neighbour one (sym at ∙ subst (λ (n : ℕ). slice_get neighbours n ≡ Some one) here is) in
              absurd (both_ways (nat_eq one.link l) differs (subst (λ (x : Neighbour). nat_eq x.link l ≡ true) this same)))
        ];
      }

      -- all of them
      pub around_end : absent ≡ nothing_absent → length neighbours ≤ i → IsAround net l d i neighbours old new
          → (e : ℕ) → e < length net.devices → IsBeside net l d e → has new e ≡ true
      around_end none done around e within beside =
          let (k, neighbour, at, leads, goes) =
          neighbour_at net absent d e none within (record { link = beside.over; within = beside.within; joined = beside.joined }) in
          let there : slice_get neighbours k ≡ Some neighbour = subst (λ (xs : List Neighbour). slice_get xs k ≡ Some neighbour) (sym are) at in
          let differs : nat_eq neighbour.link l ≡ false = false_from_ne_true (nat_eq neighbour.link l) (λ same.
          both_ways (nat_eq l beside.over) (not-true (nat_eq l beside.over) beside.other)
          (eq-eqb l beside.over (sym (eqb-true neighbour.link l same) ∙ goes))) in
          subst (λ x. has new x ≡ true) leads (around.met k neighbour (omega (arith, slice_get_within neighbours k neighbour there, done)) there differs)

  -- The search

  pub search_start : 0 < length net.devices → IsSearch net l 0 (with_number [] 0)
  search_start some = record {
    begun = refl;
    within = λ d there. (let same = only d there in omega (arith, same, some));
    joined = λ d there. subst (λ x. JoinedWithout net l 0 x) (sym (only d there)) here;
    closed = λ i d e less. absurd (omega arith);
  }
    where
      only : (d : ℕ) → has (0 ∷ []) d ≡ true → d ≡ 0
      only d there = elim (or_cases (nat_eq d 0) false there) [ inl same ↦ eqb-true d 0 same | inr none ↦ cc ]

  -- one more is looked around from
  pub search_more : (done d : ℕ) (old new : List ℕ) → slice_get old done ≡ Some d → Grows old new (IsBeside net l d)
      → ((e : ℕ) → e < length net.devices → IsBeside net l d e → has new e ≡ true) → IsNetwork net
      → IsSearch net l done old → IsSearch net l (done + 1) new
  search_more done d old new at grows met law search = record {
    begun = grows.had 0 search.begun;
    within = λ x there. elim (grows.added x there) [ inl was ↦ search.within x was | inr beside ↦ beside_within x beside ];
    joined = λ x there. elim (grows.added x there) [
      | inl was ↦ search.joined x was
      | inr beside ↦ joined_on net l 0 d x (search.joined d (has_at old done d at)) (one_link d x beside)
    ];
    closed = closed;
  }
    where
      beside_within : (x : ℕ) → IsBeside net l d x → x < length net.devices
      beside_within x beside =
          next_within net law x d (record { link = beside.over; within = beside.within; joined = joins_swap net beside.over x d ∙ beside.joined })

      closed : (i x e : ℕ) → i < done + 1 → slice_get new i ≡ Some x → e < length net.devices → IsBeside net l x e → has new e ≡ true
      closed i x e less is within beside =
          let inside : i < length old = omega (arith, less, slice_get_within old done d at) in
          let was : slice_get old i ≡ Some (get_or old i 0) = slice_get-get_or old i 0 inside in
          let same : get_or old i 0 ≡ x = same_Some (get_or old i 0) x (sym (grows.kept i (get_or old i 0) was) ∙ is) in
          let before : slice_get old i ≡ Some x = subst (λ y. slice_get old i ≡ Some y) same was in
          elim (cases_lt i done) [
            | inl early ↦ grows.had e (search.closed i x e early before within beside)
            | inr late ↦
                (let last : i ≡ done = omega (arith, less, late) in
                let this : d ≡ x = same_Some d x (sym at ∙ subst (λ (n : ℕ). slice_get old n ≡ Some x) last before) in
                met e within (subst (λ y. IsBeside net l y e) (sym this) beside))
          ]

  -- none is left
  pub search_idle : (done : ℕ) (met : List ℕ) → length met ≤ done → IsSearch net l done met → IsSearch net l (done + 1) met
  search_idle done met past search = record {
    begun = search.begun;
    within = search.within;
    joined = search.joined;
    closed = λ i d e less at. search.closed i d e (omega (arith, slice_get_within met i d at, past)) at;
  }

  -- no more than all are met
  pub most_met : (done : ℕ) (met : List ℕ) → IsSearch net l done met → IsDistinct nat_eq met → length met ≤ length net.devices
  most_met done met search distinct = length-le_from_distinct_below met (length net.devices) distinct search.within

  module _ (law : IsNetwork net) (done : ℕ) (met : List ℕ) (search : IsSearch net l done met) (dry : length met ≤ done) where
    -- what is joined to what is met is met
    all_met : (a b : ℕ) → has met a ≡ true → JoinedWithout net l a b → has met b ≡ true
    all_met a b there here = there
    all_met a b there (over {e = e} k within crosses joined passes more) =
        all_met e b (next there) more
      where
        next : has met a ≡ true → has met e ≡ true
        next there =
            let at = at_has met a there in
            search.closed at.0 a e (omega (arith, slice_get_within met at.0 a at.1, dry)) at.1
            (next_within net law e a (record { link = k; within = within; joined = joins_swap net k e a ∙ joined }))
            (record { over = k; within = within; other = crosses; joined = joined })

    -- fewer than all are met
    pub bridge_found : length met < length net.devices → IsBridge net l
    bridge_found fewer = by (find lacks (below (length net.devices))) refl
      where
        lacks : ℕ → Bool
        lacks d = not (has met d)

        by : (o : Option ℕ) → find (λ d. not (has met d)) (below (length net.devices)) ≡ o → IsBridge net l
        by None none =
            let all : length net.devices ≤ length met =
            le-length_from_below met (length net.devices) (λ d within.
            not-false (has met d) (none_found (λ d. not (has met d)) (length net.devices) d none within)) in
            absurd (omega (arith, all, fewer))
        by (Some d) some =
            let (within, passes) = found_passes (λ d. not (has met d)) (length net.devices) d some in
            record {
              first = 0;
              second = d;
              within = (omega (arith, fewer), within);
              parted = λ joined. both_ways (has met d) (not-true (has met d) passes) (all_met 0 d search.begun joined);
            }

    -- all are met
    pub no_bridge : IsDistinct nat_eq met → length net.devices ≤ length met → ¬ IsBridge net l
    no_bridge distinct all bridge =
        bridge.parted
        (joined_on net l bridge.first 0 bridge.second (joined_back net l 0 bridge.first (search.joined bridge.first (there bridge.first bridge.within.0)))
        (search.joined bridge.second (there bridge.second bridge.within.1)))
      where
        there : (d : ℕ) → d < length net.devices → has met d ≡ true
        there d within = elim (cases_Bool (has met d)) [
          | inl is_met ↦ is_met
          | inr lacks ↦
              (let most : length (met ++ d ∷ []) ≤ length net.devices =
              length-le_from_distinct_below (met ++ d ∷ []) (length net.devices) (IsDistinct-push nat_eq_equiv met d distinct lacks) (λ x is.
              elim (has_cases met d x is) [ inl was ↦ search.within x was | inr last ↦ omega (arith, last, within) ]) in
              absurd (omega (arith, length-append met (d ∷ []), most, all)))
        ]

-- The steps of a trail, and the cycle that it ends in.
use Rattle.std.proofs.Common.{◌≡◌, ◌≢◌, ℕ, ◌+◌, ◌<◌, true, false, ◌||◌, List, [], ◌∷◌, ◌++◌, length, take, drop, set as put, nat_eq, Option, Some, None, refl, sym, ap, ◌∙◌, subst, inl, inr, arith, length-set, get_or-set_other, get_or-set_same}
use Rattle.std.proofs.lemmas.Bool.{cases_eq, eq-eqb, ne_eqb, or_from, or_parts, not-true, not_from_false, both_ways}
use Rattle.std.proofs.lemmas.List.{get_or_append_left, get_or_push, length_push, drop_more, take-append-drop}
use Rattle.std.proofs.lemmas.List.Folds.{list_any-append}
use Rattle.std.proofs.lemmas.Option.{slice_get-get_or}
use Rattle.sd_num.specs.Lists.{ascends, has}
use Rattle.sd_checker.specs.check_loop.Graphs.{place_in, IsGraph}
use Rattle.sd_checker.specs.check_loop.ShownCycles.{IsChain, IsFirstOf, AreDifferent}
use Rattle.sd_checker.specs.check_loop.Shown.{next_endless, IsStep, CycleIs}
use Rattle.sd_checker.specs.check_loop.Trails.{IsTrail, device_at, passed_at}
use Rattle.sd_checker.specs.declared.check_loop.graph.Successors.{Successors}
use Rattle.sd_checker.specs.declared.check_loop.marking.Mark.{Mark}
use Rattle.sd_checker.proofs.check_loop.Markers.{both_at}
use Rattle.sd_checker.proofs.check_loop.Least.{next_parts}
use Rattle.sd_checker.proofs.check_loop.Places.{place_in-at}

-- a chain with one more element
chain_more : (R : ℕ → ℕ → Type 0) (xs : List ℕ) (x y : ℕ) → IsChain R (xs ++ x ∷ []) → R x y → IsChain R ((xs ++ x ∷ []) ++ y ∷ [])
chain_more R [] x y chain step = (step, tt)
chain_more R (z ∷ []) x y chain step = (chain.0, (step, tt))
chain_more R (z ∷ w ∷ ws) x y chain step = (chain.0, chain_more R (w ∷ ws) x y chain.1 step)

-- the first of a list that goes on
first_more : (P : ℕ → Type 0) (xs : List ℕ) (x y : ℕ) → IsFirstOf (xs ++ x ∷ []) P → IsFirstOf ((xs ++ x ∷ []) ++ y ∷ []) P
first_more P [] x y first = first
first_more P (z ∷ zs) x y first = first

first_less : (P : ℕ → Type 0) (xs ys : List ℕ) → 0 < length xs → IsFirstOf (xs ++ ys) P → IsFirstOf xs P
first_less P [] ys some first = absurd (omega arith)
first_less P (z ∷ zs) ys some first = first

-- one more number that is not among them
has_more : (xs : List ℕ) (x y : ℕ) → has xs y ≡ false → y ≢ x → has (xs ++ x ∷ []) y ≡ false
has_more xs x y none other =
    list_any-append (nat_eq y) xs (x ∷ []) ∙ or_from (has xs y) (nat_eq y x || false) none (or_from (nat_eq y x) false (ne_eqb y x other) refl)

different_more : (xs : List ℕ) (x : ℕ) → AreDifferent xs → has xs x ≡ false → AreDifferent (xs ++ x ∷ [])
different_more [] x apart none = (refl, tt)
different_more (y ∷ ys) x apart none =
    let parts = or_parts (nat_eq x y) (has ys x) none in (
      not_from_false (has (ys ++ x ∷ []) y) (has_more ys x y (not-true (has ys y) apart.0) (λ same. both_ways (nat_eq x y) parts.0 (eq-eqb x y (sym same)))),
      different_more ys x apart.1 parts.1,
    )

module _ (hit : List ℕ) (graph : List Successors) (marks : List Mark) (up : ascends hit ≡ true) (size : length hit ≡ length graph) where
  -- devices at different places differ
  apart_at : (i j : ℕ) → i < length hit → j < length hit → i ≢ j → device_at hit i ≢ device_at hit j
  apart_at i j first second other same =
      let both : Some i ≡ Some j = sym (place_in-at hit i up first) ∙ ap (λ (d : ℕ). place_in hit d) same ∙ place_in-at hit j up second in
      let equal : i ≡ j = cc in
      other equal

  -- one more step of a trail
  pub trail_more : (begin : ℕ) (path : List ℕ) (passed : List (Option ℕ)) (here next : ℕ) → IsTrail hit graph marks begin path passed here → IsGraph graph
      → passed_at passed here ≡ None
      → next_endless graph marks here ≡ Some next → IsTrail hit graph marks begin (path ++ device_at hit here ∷ []) (put passed here (Some (length path))) next
  trail_more begin path passed here next t graphs open_here step =
      let d = device_at hit here in
      let parts = next_parts graph marks here next step in
      let there : next < length hit =
      (let below = both_at (λ j. j < length graph) graph here next parts.0 (graphs here (omega (arith, t.within, size))) in omega (arith, below, size)) in
      let known : here < length passed = omega (arith, t.within, t.size) in
      record {
        size = length-set passed here (Some (length path)) ∙ t.size;
        within = there;
        endless = parts.1;
        begins = first_more (λ x. x ≡ device_at hit begin) path d (device_at hit next) t.begins;
        goes_on = chain_more (IsStep hit graph marks) path d (device_at hit next) t.goes_on
            (record {
              here = here;
              there = next;
              from = slice_get-get_or hit here 0 t.within;
              to = slice_get-get_or hit next 0 there;
              endless = t.endless;
              next = step;
            });
        once = different_more path d t.once (t.new here t.within open_here);
        places = λ i k at.
            elim (cases_eq i here) [
              | inl same ↦
                  (let found : Some k ≡ Some (length path) = sym at ∙ ap (λ (x : ℕ). passed_at (put passed here (Some (length path))) x) same
                  ∙ get_or-set_same passed here (Some (length path)) None known in
                  let last : k ≡ length path = cc in
                  (omega (arith, last, length_push path d), get_or_push path d 0 k (sym last) ∙ ap (device_at hit) (sym same)))
              | inr other ↦
                  (let old = t.places i k (sym (get_or-set_other passed here i (Some (length path)) None other) ∙ at) in
                  (omega (arith, old.0, length_push path d), get_or_append_left path (d ∷ []) 0 k old.0 ∙ old.1))
            ];
        new = λ i within none.
            elim (cases_eq i here) [
              | inl same ↦ absurd
                  (differ (sym none ∙ ap (λ (x : ℕ). passed_at (put passed here (Some (length path))) x) same
                  ∙ get_or-set_same passed here (Some (length path)) None known))
              | inr other ↦
                  has_more path d (device_at hit i) (t.new i within (sym (get_or-set_other passed here i (Some (length path)) None other) ∙ none))
                  (apart_at i here within t.within other)
            ];
      }
    where
      differ : ◌≡◌ {A = Option ℕ} None (Some (length path)) → ⊥
      differ same = cc

  -- a trail that comes to a place again ends in a cycle
  pub trail_ends : (begin : ℕ) (path : List ℕ) (passed : List (Option ℕ)) (here k : ℕ) → IsTrail hit graph marks begin path passed here
      → passed_at passed here ≡ Some k → CycleIs hit graph marks (device_at hit begin) (drop k path)
  trail_ends begin path passed here k t again =
      let place = t.places here k again in
      let d = device_at hit here in
      let tail : drop k path ≡ d ∷ drop (k + 1) path = drop_more path k 0 place.0 ∙ ap (λ (x : ℕ). x ∷ drop (k + 1) path) place.1 in
      let whole : path ≡ take k path ++ d ∷ drop (k + 1) path = sym (take-append-drop k path) ∙ ap (λ (xs : List ℕ). take k path ++ xs) tail in
      subst (λ (xs : List ℕ). CycleIs hit graph marks (device_at hit begin) xs) (sym tail)
      (record {
        lead = take k path;
        begins = subst (λ (xs : List ℕ). IsFirstOf xs (λ x. x ≡ device_at hit begin)) whole
            (first_less (λ x. x ≡ device_at hit begin) path (d ∷ []) (omega (arith, place.0)) t.begins);
        goes_on = subst (λ (xs : List ℕ). IsChain (IsStep hit graph marks) (xs ++ d ∷ [])) whole t.goes_on;
        once = subst AreDifferent whole t.once;
      })

-- Spans in the order of their first places, merged one by one.
use Rattle.std.proofs.Common.{◌≡◌, ℕ, ◌+◌, ◌<◌, ◌≤◌, Bool, true, false, ◌||◌, List, ◌++◌, length, take, get_or, max, refl, sym, ap, ◌∙◌, inl, inr, arith, nat_le, nat_lt}
use Rattle.std.specs.List.{slice_range}
use Rattle.std.specs.List.Sorted.{IsNonDecreasingBy}
use Rattle.std.proofs.lemmas.Bool.{cases_Bool, and_parts, or_cases, or_left, or_right, false_from_ne_true, leb-true, ltb-true}
use Rattle.std.proofs.lemmas.List.{take_all}
use Rattle.std.proofs.lemmas.List.Folds.{list_any_more}
use Rattle.sd_plan.specs.IndexedPlan.{is_within, no_span}
use Rattle.sd_plan.specs.declared.index.Span.{Span}
use Rattle.sd_checker.specs.check_hit.Spans.{is_covered, picked}
use Rattle.sd_checker.proofs.check_hit.Picked.{picked_agree, picked_skip, picked_slice}
use Rattle.sd_checker.proofs.check_hit.Covered.{within_true}

-- the first i spans are merged: what they cover is taken, and lies below a place up to which, from the last first place on, all is covered
pub record IsMerged (order : List ℕ) (spans : List Span) (i taken : ℕ) (devices : List ℕ) : Type 0 where
  pub whole : devices ≡ picked order (is_covered (take i spans)) taken
  pub inside : (p : ℕ) → is_covered (take i spans) p ≡ true → p < taken
  pub solid : (p : ℕ) → ((j : ℕ) → j < i → (get_or spans j no_span).from ≤ p) → p < taken → is_covered (take i spans) p ≡ true
  pub bound : taken ≤ length order

-- the first and last place of a span that has a place
within_parts : (s : Span) (p : ℕ) → is_within s p ≡ true → (s.from ≤ p) × (p < s.to)
within_parts s p h =
    let parts : (nat_le s.from p ≡ true) × (nat_lt p s.to ≡ true) = and_parts (nat_le s.from p) (nat_lt p s.to) h in
    (leb-true s.from p parts.0, ltb-true p s.to parts.1)

-- one span more
covered_more : (spans : List Span) (i p : ℕ) → i < length spans
    → is_covered (take (i + 1) spans) p ≡ (is_covered (take i spans) p || is_within (get_or spans i no_span) p)
covered_more spans i p within = list_any_more (λ s. is_within s p) spans i no_span within

-- below the place up to which all is taken a further span covers nothing new
nothing_new : (order : List ℕ) (spans : List Span) (i taken p : ℕ) (devices : List ℕ) → IsNonDecreasingBy (λ s. s.from) spans
    → IsMerged order spans i taken devices → i < length spans → p < taken
    → is_covered (take i spans) p ≡ is_covered (take (i + 1) spans) p
nothing_new order spans i taken p devices sorted merged within before =
    elim (cases_Bool (is_within (get_or spans i no_span) p)) [
      | inl there ↦
          (let from : (get_or spans i no_span).from ≤ p = (within_parts (get_or spans i no_span) p there).0 in
          let old : is_covered (take i spans) p ≡ true = merged.solid p (λ j earlier. omega (arith, sorted j i no_span (omega arith) within, from)) before in
          old ∙ sym (covered_more spans i p within ∙ or_left (is_covered (take i spans) p) (is_within (get_or spans i no_span) p) old))
      | inr apart ↦ sym (covered_more spans i p within ∙ ap (λ t. is_covered (take i spans) p || t) apart ∙ unchanged (is_covered (take i spans) p))
    ]
  where
    unchanged : (t : Bool) → (t || false) ≡ t
    unchanged true = refl
    unchanged false = refl

-- a span of which something is new
pub merged_more : (order : List ℕ) (spans : List Span) (i taken from to : ℕ) (devices : List ℕ) → IsNonDecreasingBy (λ s. s.from) spans
    → IsMerged order spans i taken devices → i < length spans
    → (get_or spans i no_span).to ≡ to → from ≡ max (get_or spans i no_span).from taken → from < to → to ≤ length order
    → IsMerged order spans (i + 1) to (devices ++ slice_range order from to)
merged_more order spans i taken from to devices sorted merged within last first some room =
    let s = get_or spans i no_span in
    let new : (p : ℕ) → s.from ≤ p → p < to → is_covered (take (i + 1) spans) p ≡ true =
    λ p a b. covered_more spans i p within ∙ or_right (is_covered (take i spans) p) (is_within s p) (within_true s p a (omega arith))
    in
    let cases : (p : ℕ) → is_covered (take (i + 1) spans) p ≡ true → p < to =
    λ p covered. elim (or_cases (is_covered (take i spans) p) (is_within s p) (sym (covered_more spans i p within) ∙ covered)) [
      | inl old ↦ omega (arith, merged.inside p old)
      | inr here ↦ omega (arith, (within_parts s p here).1)
    ]
    in
    record {
      whole =
          ap (λ front. front ++ slice_range order from to)
          (merged.whole
          ∙ picked_agree order (is_covered (take i spans)) (is_covered (take (i + 1) spans)) taken
          (λ p before. nothing_new order spans i taken p devices sorted merged within before)
          ∙ sym (picked_skip order (is_covered (take (i + 1) spans)) taken from (omega arith)
          (λ p past before. false_from_ne_true (is_covered (take (i + 1) spans) p) (λ covered.
          elim (or_cases (is_covered (take i spans) p) (is_within s p) (sym (covered_more spans i p within) ∙ covered)) [
            | inl old ↦ omega (arith, merged.inside p old)
            | inr here ↦ omega (arith, (within_parts s p here).0)
          ]))))
          ∙ sym (picked_slice order (is_covered (take (i + 1) spans)) from to (omega arith) room (λ p a b. new p (omega arith) b));
      inside = cases;
      solid = λ p all before. new p (all i (omega arith)) before;
      bound = room;
    }

-- a span of which all is taken
pub merged_same : (order : List ℕ) (spans : List Span) (i taken : ℕ) (devices : List ℕ) → IsNonDecreasingBy (λ s. s.from) spans
    → IsMerged order spans i taken devices → i < length spans
    → (get_or spans i no_span).to ≤ max (get_or spans i no_span).from taken
    → IsMerged order spans (i + 1) taken devices
merged_same order spans i taken devices sorted merged within nothing =
    let s = get_or spans i no_span in
    record {
      whole = merged.whole
          ∙ picked_agree order (is_covered (take i spans)) (is_covered (take (i + 1) spans)) taken
          (λ p before. nothing_new order spans i taken p devices sorted merged within before);
      inside = λ p covered. elim (or_cases (is_covered (take i spans) p) (is_within s p) (sym (covered_more spans i p within) ∙ covered)) [
        | inl old ↦ merged.inside p old
        | inr here ↦ omega (arith, (within_parts s p here).0, (within_parts s p here).1)
      ];
      solid = λ p all before. sym (nothing_new order spans i taken p devices sorted merged within before)
          ∙ merged.solid p (λ j earlier. all j (omega arith)) before;
      bound = merged.bound;
    }

-- all spans
pub merged_all : (order : List ℕ) (spans : List Span) (i taken : ℕ) (devices : List ℕ) → IsMerged order spans i taken devices → length spans ≤ i
    → devices ≡ picked order (is_covered spans) (length order)
merged_all order spans i taken devices merged all =
    merged.whole
    ∙ sym (picked_skip order (is_covered (take i spans)) taken (length order) merged.bound
    (λ p past before. false_from_ne_true (is_covered (take i spans) p) (λ covered. omega (arith, merged.inside p covered))))
    ∙ ap (λ some. picked order (is_covered some) (length order)) (take_all i spans all)

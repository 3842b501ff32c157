-- Which places the spans of a thing cover.
use Rattle.std.proofs.Common.{◌≡◌, ℕ, ◌+◌, ◌<◌, ◌≤◌, true, false, ◌&&◌, ◌||◌, not, cond, List, [], ◌∷◌, min, max, nat_le, nat_lt, nat_eq, flat_map, refl, sym, ap, ◌∙◌, inl, inr, arith}
use Rattle.std.specs.List.{list_any}
use Rattle.std.proofs.lemmas.Bool.{cases_lt, lt-ltb, le-ltb, le-leb, lt-leb, eq-eqb, ne_eqb, and_left, and_right, and_from, or_from, or_left, or_right, cases_order}
use Rattle.std.proofs.lemmas.List.Folds.{list_any-append}
use Rattle.sd_plan.specs.IndexedPlan.{is_within}
use Rattle.sd_plan.specs.declared.index.Span.{Span}
use Rattle.sd_plan.proofs.Forest.{or_none}
use Rattle.sd_checker.specs.check_hit.Spans.{non_empty, outside, behind_first, is_covered}

pub within_true : (s : Span) (p : ℕ) → s.from ≤ p → p < s.to → is_within s p ≡ true
within_true s p from to = and_from (nat_le s.from p) (nat_lt p s.to) (le-leb s.from p from) (lt-ltb p s.to to)

before_span : (s : Span) (p : ℕ) → p < s.from → is_within s p ≡ false
before_span s p before = and_left (nat_le s.from p) (nat_lt p s.to) (lt-leb s.from p before)

after_span : (s : Span) (p : ℕ) → s.to ≤ p → is_within s p ≡ false
after_span s p after = and_right (nat_le s.from p) (nat_lt p s.to) (le-ltb p s.to after)

-- a span covers its places
pub covered-non_empty : (s : Span) (p : ℕ) → is_covered (non_empty s) p ≡ is_within s p
covered-non_empty s p =
    elim (cases_lt s.from s.to) [
      | inl some ↦ (ap (λ t. is_covered (cond t (s ∷ []) []) p) (lt-ltb s.from s.to some) ∙ or_none (is_within s p))
      | inr none ↦
          (ap (λ t. is_covered (cond t (s ∷ []) []) p) (le-ltb s.from s.to none)
          ∙ elim (cases_lt p s.from) [ inl before ↦ sym (before_span s p before) | inr after ↦ sym (after_span s p (omega arith)) ])
    ]

-- a span less another covers the places that are not in that
pub covered-outside : (s cut : Span) (p : ℕ) → is_covered (outside s cut) p ≡ (is_within s p && not (is_within cut p))
covered-outside s cut p =
    list_any-append (λ (x : Span). is_within x p) (non_empty front) (non_empty back)
    ∙ ap (λ t. t || is_covered (non_empty back) p) (covered-non_empty front p)
    ∙ ap (λ t. is_within front p || t) (covered-non_empty back p)
    ∙ by_place
  where
    front : Span
    front = record { from = s.from; to = min s.to cut.from }

    back : Span
    back = record { from = max s.from cut.to; to = s.to }

    by_place : (is_within front p || is_within back p) ≡ (is_within s p && not (is_within cut p))
    by_place =
        elim (cases_lt p s.from) [
          | inl before ↦
              (or_from (is_within front p) (is_within back p) (before_span front p before) (before_span back p (omega arith))
              ∙ sym (and_left (is_within s p) (not (is_within cut p)) (before_span s p before)))
          | inr from ↦
              elim (cases_lt p s.to) [
                | inr after ↦
                    (or_from (is_within front p) (is_within back p) (after_span front p (omega arith)) (after_span back p after)
                    ∙ sym (and_left (is_within s p) (not (is_within cut p)) (after_span s p after)))
                | inl inside ↦
                    (by_cut from inside ∙ sym (ap (λ t. t && not (is_within cut p)) (within_true s p from inside)))
              ]
        ]
      where
        by_cut : s.from ≤ p → p < s.to → (is_within front p || is_within back p) ≡ not (is_within cut p)
        by_cut from inside =
            elim (cases_lt p cut.from) [
              | inl before ↦ (or_left (is_within front p) (is_within back p) (within_true front p from (omega arith)) ∙ sym (ap not (before_span cut p before)))
              | inr past ↦
                  elim (cases_lt p cut.to) [
                    | inl cut_off ↦
                        (or_from (is_within front p) (is_within back p) (after_span front p (omega arith)) (before_span back p (omega arith))
                        ∙ sym (ap not (within_true cut p past cut_off)))
                    | inr beyond ↦
                        (or_right (is_within front p) (is_within back p) (within_true back p (omega arith) inside)
                        ∙ sym (ap not (after_span cut p beyond)))
                  ]
            ]

-- a span without its first place
pub within-behind_first : (s : Span) (p : ℕ) → is_within (behind_first s) p ≡ (not (nat_eq p s.from) && is_within s p)
within-behind_first s p =
    elim (cases_lt s.from s.to) [
      | inl some ↦ (ap (λ t. is_within (cond t (record { from = s.from + 1; to = s.to }) s) p) (lt-ltb s.from s.to some) ∙ behind)
      | inr none ↦
          (ap (λ t. is_within (cond t (record { from = s.from + 1; to = s.to }) s) p) (le-ltb s.from s.to none)
          ∙ nowhere none ∙ sym (and_right (not (nat_eq p s.from)) (is_within s p) (nowhere none)))
    ]
  where
    rest : Span
    rest = record { from = s.from + 1; to = s.to }

    nowhere : s.to ≤ s.from → is_within s p ≡ false
    nowhere none = elim (cases_lt p s.from) [ inl before ↦ before_span s p before | inr after ↦ after_span s p (omega arith) ]

    behind : is_within rest p ≡ (not (nat_eq p s.from) && is_within s p)
    behind =
        elim (cases_order p s.from) [
          | inl same ↦ (before_span rest p (omega arith) ∙ sym (and_left (not (nat_eq p s.from)) (is_within s p) (ap not (eq-eqb p s.from same))))
          | inr (inl before) ↦ (before_span rest p (omega arith) ∙ sym (and_right (not (nat_eq p s.from)) (is_within s p) (before_span s p before)))
          | inr (inr after) ↦
              (ap (λ t. t && nat_lt p s.to) (le-leb (s.from + 1) p (omega arith))
              ∙ sym (ap (λ t. not t && is_within s p) (ne_eqb p s.from (λ same. omega arith)) ∙ ap (λ t. t && nat_lt p s.to) (le-leb s.from p (omega arith))))
        ]

-- what covers the spans of several things
pub covered-flat_map : {X : Type 0} (f : X → List Span) (xs : List X) (p : ℕ) → is_covered (flat_map f xs) p ≡ list_any (λ x. is_covered (f x) p) xs
covered-flat_map f [] p = refl
covered-flat_map f (x ∷ xs) p = list_any-append (λ (s : Span). is_within s p) (f x) (flat_map f xs)
    ∙ ap (λ t. is_covered (f x) p || t) (covered-flat_map f xs p)

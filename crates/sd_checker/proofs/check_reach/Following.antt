-- Marks while a trail of next hops is followed.
use Rattle.std.specs.Prelude.{◌≡◌, ℕ, ◌+◌, ◌<◌, ◌≤◌, true, false, List, [], ◌∷◌, ◌++◌, length, slice_get, Option, Some, ◌⊎◌}
use Rattle.std.proofs.Common.{refl, sym, ap, ◌∙◌, ◌≢◌, subst, arith, inl, inr, get_or, set, take}
use Rattle.std.proofs.lemmas.Bool.{cases_eq, cases_lt, both_ways, false_from_ne_true, cases_Bool}
use Rattle.std.proofs.lemmas.List.{take_more, take-append-le, take_all}
use Rattle.std.proofs.lemmas.Option.{slice_get-get_or, slice_get_within, same_Some}
use Rattle.std.proofs.Math.ListN.{length-set}
use Rattle.sd_num.specs.Lists.{has}
use Rattle.sd_plan.specs.topo.Network.{Network}
use Rattle.sd_plan.specs.declared.domain.DomainId.{DomainId}
use Rattle.sd_plan.specs.declared.Plan.{Plan}
use Rattle.sd_checker.specs.check_reach.Reach.{Fed}
use Rattle.sd_checker.specs.check_reach.Turns.{IsHeld, IsUnfed, AreMarks, IsMarkedFed, IsTrail, IsFollowed, AreSettled}
use Rattle.sd_checker.specs.declared.check_reach.marks.Mark.{Mark}
use Rattle.sd_checker.specs.declared.check_reach.marks.Mark.TheVariants as mark
use Rattle.sd_num.proofs.Places.{has_before, has_last, has_cases, at_written, at_unwritten}

-- no place has two marks
pub two_marks : {m n : Mark} {X : Type 0} (o : Option Mark) → o ≡ Some m → o ≡ Some n → (◌≡◌ {A = Mark} m n → X) → X
two_marks {m} {n} o one two differ = differ (same_Some m n (sym one ∙ two))

-- what is not in a longer list
not_before : (xs : List ℕ) (y x : ℕ) → has (xs ++ y ∷ []) x ≡ false → has xs x ≡ false
not_before xs y x out = false_from_ne_true (has xs x) (λ there. both_ways (has (xs ++ y ∷ []) x) out (has_before xs y x there))

not_last : (xs : List ℕ) (y x : ℕ) → has (xs ++ y ∷ []) x ≡ false → x ≢ y
not_last xs y x out same = both_ways (has (xs ++ y ∷ []) x) out (subst (λ z. has (xs ++ y ∷ []) z ≡ true) (sym same) (has_last xs y))

-- one more of a trail is marked as fed
pub marked_more : (trail : List ℕ) (old marks : List Mark) (k : ℕ) → k < length trail → IsMarkedFed (take k trail) old marks → get_or trail k 0 < length marks
    → IsMarkedFed (take (k + 1) trail) old (set marks (get_or trail k 0) mark.Fed)
marked_more trail old marks k within so_far inside =
    let x : ℕ = get_or trail k 0 in
    subst (λ (xs : List ℕ). IsMarkedFed xs old (set marks x mark.Fed)) (sym (take_more trail k 0 within))
    (record {
      size = length-set marks x mark.Fed ∙ so_far.size;
      on = λ i there. elim (cases_eq i x) [
        | inl same ↦ subst (λ j. slice_get (set marks x mark.Fed) j ≡ Some mark.Fed) (sym same) (at_written marks x mark.Fed inside)
        | inr apart ↦ elim (has_cases (take k trail) x i there) [
          | inl before ↦ at_unwritten marks x i mark.Fed apart ∙ so_far.on i before
          | inr same ↦ absurd (apart same)
        ]
      ];
      off = λ i out. at_unwritten marks x i mark.Fed (not_last (take k trail) x i out) ∙ so_far.off i (not_before (take k trail) x i out);
    })

module _ (net : Network) (plan : Plan) (domain : DomainId) (hit : List ℕ) where
  -- a device that is held by a set is held by a larger one
  pub held_more : (S T : ℕ → Type 0) (d : ℕ) → ((e : ℕ) → S e → T e) → IsHeld net plan domain S d → IsHeld net plan domain T d
  held_more S T d more held = record { held = λ sound. let parts = held.held sound in (parts.0, λ hop is left. more hop.parent (parts.1 hop is left)) }

  -- marks that are right are so in a larger set
  pub marks_more : (S T : ℕ → Type 0) (marks : List Mark) → ((e : ℕ) → S e → T e) → AreMarks net plan domain hit S marks → AreMarks net plan domain hit T marks
  marks_more S T marks more right =
      record {
        size = right.size;
        fed = right.fed;
        unfed = λ i d at unfed. held_more (λ e. IsUnfed hit marks e ⊎ S e) (λ e. IsUnfed hit marks e ⊎ T e) d
            (λ e side. elim side [ inl a ↦ inl a | inr b ↦ inr (more e b) ]) (right.unfed i d at unfed);
      }

  module _ (place d : ℕ) (marks : List Mark) (at : slice_get hit place ≡ Some d) (unseen : slice_get marks place ≡ Some mark.Unseen) where
    -- a device that is unfed as far as known
    still_unfed : (e : ℕ) → IsUnfed hit marks e → IsUnfed hit (set marks place mark.Unfed) e
    still_unfed e unfed =
        record {
          place = unfed.place;
          at = unfed.at;
          marked = elim (cases_eq unfed.place place) [
            | inl same ↦ subst (λ j. slice_get (set marks place mark.Unfed) j ≡ Some mark.Unfed) (sym same)
                (at_written marks place mark.Unfed (slice_get_within marks place mark.Unseen unseen))
            | inr apart ↦ at_unwritten marks place unfed.place mark.Unfed apart ∙ unfed.marked
          ];
        }

    -- the place that was looked at is marked
    pub looked_at : (T : ℕ → Type 0) → AreMarks net plan domain hit (λ e. slice_get hit place ≡ Some e) marks → IsHeld net plan domain T d
        → AreMarks net plan domain hit T (set marks place mark.Unfed)
    looked_at T right held =
        let inside : place < length marks = slice_get_within marks place mark.Unseen unseen in
        let written : slice_get (set marks place mark.Unfed) place ≡ Some mark.Unfed = at_written marks place mark.Unfed inside in
        record {
          size = length-set marks place mark.Unfed ∙ right.size;
          fed = λ i x there fed. elim (cases_eq i place) [
            | inl same ↦ two_marks (slice_get (set marks place mark.Unfed) i) fed
                (subst (λ j. slice_get (set marks place mark.Unfed) j ≡ Some mark.Unfed) (sym same) written) (λ equal. cc)
            | inr apart ↦ right.fed i x there (sym (at_unwritten marks place i mark.Unfed apart) ∙ fed)
          ];
          unfed = λ i x there unfed. elim (cases_eq i place) [
            | inl same ↦
                (let equal : d ≡ x = same_Some d x (sym at ∙ subst (λ j. slice_get hit j ≡ Some x) same there) in
                subst (λ y. IsHeld net plan domain (λ e. IsUnfed hit (set marks place mark.Unfed) e ⊎ T e) y) equal
                (held_more T (λ e. IsUnfed hit (set marks place mark.Unfed) e ⊎ T e) d (λ e t. inr t) held))
            | inr apart ↦
                held_more (λ e. IsUnfed hit marks e ⊎ (slice_get hit place ≡ Some e)) (λ e. IsUnfed hit (set marks place mark.Unfed) e ⊎ T e) x
                (λ e side. elim side [ inl a ↦ inl (still_unfed e a) | inr b ↦ inl (record { place = place; at = b; marked = written }) ])
                (right.unfed i x there (sym (at_unwritten marks place i mark.Unfed apart) ∙ unfed))
          ];
        }

    -- the trail goes on to it
    pub trail_more : (old : List Mark) (trail : List ℕ) → IsTrail hit old marks trail → IsTrail hit old (set marks place mark.Unfed) (trail ++ place ∷ [])
    trail_more old trail so_far =
        let inside : place < length marks = slice_get_within marks place mark.Unseen unseen in
        let written : slice_get (set marks place mark.Unfed) place ≡ Some mark.Unfed = at_written marks place mark.Unfed inside in
        let new : has trail place ≡ false =
        false_from_ne_true (has trail place) (λ there. two_marks (slice_get marks place) unseen (so_far.is_unfed place there) (λ same. cc)) in
        record {
          was_unseen = λ i there. elim (has_cases trail place i there) [
            | inl before ↦ so_far.was_unseen i before
            | inr same ↦ subst (λ j. slice_get old j ≡ Some mark.Unseen) (sym same) (sym (so_far.rest place new) ∙ unseen)
          ];
          is_unfed = λ i there. elim (cases_eq i place) [
            | inl same ↦ subst (λ j. slice_get (set marks place mark.Unfed) j ≡ Some mark.Unfed) (sym same) written
            | inr apart ↦ elim (has_cases trail place i there) [
              | inl before ↦ at_unwritten marks place i mark.Unfed apart ∙ so_far.is_unfed i before
              | inr same ↦ absurd (apart same)
            ]
          ];
          rest = λ i out. at_unwritten marks place i mark.Unfed (not_last trail place i out) ∙ so_far.rest i (not_before trail place i out);
        }

    -- the start stays marked
    pub start_more : (start : ℕ) → (place ≡ start) ⊎ (slice_get marks start ≡ Some mark.Unfed) → slice_get (set marks place mark.Unfed) start ≡ Some mark.Unfed
    start_more start side =
        let inside : place < length marks = slice_get_within marks place mark.Unseen unseen in
        let written : slice_get (set marks place mark.Unfed) place ≡ Some mark.Unfed = at_written marks place mark.Unfed inside in
        elim (cases_eq start place) [
          | inl same ↦ subst (λ j. slice_get (set marks place mark.Unfed) j ≡ Some mark.Unfed) (sym same) written
          | inr apart ↦ elim side [
            | inl here ↦ absurd (apart (sym here))
            | inr unfed ↦ at_unwritten marks place start mark.Unfed apart ∙ unfed
          ]
        ]

    -- all of a trail is fed if the device is to which the last one turns
    pub leads_more : (trail : List ℕ) (T : Type 0) → (T → Fed net plan domain d)
        → ((i x : ℕ) → has trail i ≡ true → slice_get hit i ≡ Some x → (e : ℕ) → slice_get hit place ≡ Some e → Fed net plan domain e → Fed net plan domain x)
        → (i x : ℕ) → has (trail ++ place ∷ []) i ≡ true → slice_get hit i ≡ Some x → T → Fed net plan domain x
    leads_more trail T turns leads i x there is t = elim (has_cases trail place i there) [
      | inl before ↦ leads i x before is d at (turns t)
      | inr same ↦ (let equal : d ≡ x = same_Some d x (sym at ∙ subst (λ j. slice_get hit j ≡ Some x) same is) in
          subst (λ y. Fed net plan domain y) equal (turns t))
    ]

  -- a trail that ends at a device that is marked as not fed
  pub ends_unfed : (place d : ℕ) (marks : List Mark) → slice_get hit place ≡ Some d → slice_get marks place ≡ Some mark.Unfed
      → AreMarks net plan domain hit (λ e. slice_get hit place ≡ Some e) marks → AreMarks net plan domain hit (λ e. ⊥) marks
  ends_unfed place d marks at marked right =
      record {
        size = right.size;
        fed = right.fed;
        unfed = λ i x there unfed.
            held_more (λ e. IsUnfed hit marks e ⊎ (slice_get hit place ≡ Some e)) (λ e. IsUnfed hit marks e ⊎ ⊥) x
            (λ e side. elim side [ inl a ↦ inl a | inr b ↦ inl (record { place = place; at = b; marked = marked }) ]) (right.unfed i x there unfed);
      }

  -- where the trail ends at what is fed, all of it is marked as fed
  pub fed_right : (start : ℕ) (old marks new : List Mark) (trail : List ℕ) → AreMarks net plan domain hit (λ e. ⊥) old
      → IsFollowed net plan domain hit start old marks trail true → IsMarkedFed trail marks new
      → AreMarks net plan domain hit (λ e. ⊥) new
  fed_right start old marks new trail right followed marked =
      record {
        size = marked.size ∙ followed.size ∙ right.size;
        fed = λ i d at fed. elim (cases_Bool (has trail i)) [
          | inl there ↦ followed.all_fed refl i d there at
          | inr out ↦ right.fed i d at (sym (followed.followed.rest i out) ∙ sym (marked.off i out) ∙ fed)
        ];
        unfed = λ i d at unfed. elim (cases_Bool (has trail i)) [
          | inl there ↦ two_marks (slice_get new i) unfed (marked.on i there) (λ same. cc)
          | inr out ↦
              held_more (λ e. IsUnfed hit old e ⊎ ⊥) (λ e. IsUnfed hit new e ⊎ ⊥) d
              (λ e side. elim side [ inl a ↦ inl (kept e a) | inr b ↦ inr b ])
              (right.unfed i d at (sym (followed.followed.rest i out) ∙ sym (marked.off i out) ∙ unfed))
        ];
      }
    where
      kept : (e : ℕ) → IsUnfed hit old e → IsUnfed hit new e
      kept e was =
          let out : has trail was.place ≡ false =
          false_from_ne_true (has trail was.place)
          (λ there. two_marks (slice_get old was.place) was.marked (followed.followed.was_unseen was.place there) (λ same. cc)) in
          record { place = was.place; at = was.at; marked = marked.off was.place out ∙ followed.followed.rest was.place out ∙ was.marked }

-- places before the next one are marked
pub seen_more : (old new : List Mark) (k : ℕ) → AreSettled k old new → k < length old → ((i : ℕ) → i < k → slice_get old i ≡ Some mark.Unseen → ⊥) → (i : ℕ)
    → i < k + 1 → slice_get new i ≡ Some mark.Unseen → ⊥
seen_more old new k settled within seen i before lost =
    elim (cases_lt i k) [
      | inl less ↦
          (let m : Mark = get_or old i mark.Unseen in
          let was : slice_get old i ≡ Some m = slice_get-get_or old i mark.Unseen (omega arith) in
          let not_unseen : (m ≡ mark.Unseen) → ⊥ = λ same. seen i less (was ∙ ap Some same) in
          not_unseen (same_Some m mark.Unseen (sym (settled.stands i m was not_unseen) ∙ lost)))
      | inr most ↦ (let same : i ≡ k = omega arith in settled.marked (subst (λ j. slice_get new j ≡ Some mark.Unseen) same lost))
    ]

-- a list that was lent whole comes back whole
pub written_back : {X : Type 0} (n : ℕ) (xs ys : List X) → length xs ≡ n → take n (xs ++ ys) ≡ xs
written_back n xs ys size = let within : n ≤ length xs = omega arith in rw take-append-le (take_all n xs (omega arith))

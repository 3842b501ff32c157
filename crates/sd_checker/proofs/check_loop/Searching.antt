-- The steps of the search over a graph.
use Rattle.std.proofs.Common.{◌≡◌, ◌≢◌, ℕ, suc, ◌+◌, ◌-◌, ◌<◌, ◌≤◌, true, false, ◌⊎◌, List, [], ◌∷◌, ◌++◌, length, take, drop, get_or, set as put, nat_eq, count_by, replicate, cond, refl, sym, ap, ◌∙◌, inl, inr, subst, arith, length-set, get_or-set_other, get_or-set_same, Option, Some, None}
use Rattle.std.specs.Prelude.{IfSome, if◌then◌else◌}
use Rattle.std.proofs.lemmas.Bool.{cases_eq, cases_lt, cases_Bool, eq-eqb, ne_eqb, cond-true, cond-false, both_ways, false_from_ne_true, or_left, or_right}
use Rattle.std.proofs.lemmas.List.{get_or_append_left, get_or_push, length_push, get_or-take, length-take-le, take_at, get_or-replicate, length-replicate, get_or_past}
use Rattle.std.proofs.lemmas.List.Sums.{sum_by-cons}
use Rattle.sd_num.specs.Lists.{has, same_number}
use Rattle.sd_checker.specs.check_loop.Graphs.{BothAre, successors_at, no_successors, leads}
use Rattle.sd_checker.specs.check_loop.Markings.{mark_at, EndsBelow, AreRanked, GoOn, IsSearch, step_by, step_to, step_at, first_step, is_new, NoneNewer, search_left}
use Rattle.sd_checker.specs.declared.check_loop.graph.Successors.{Successors}
use Rattle.sd_checker.specs.declared.check_loop.marking.Mark.{Mark}
use Rattle.sd_checker.specs.declared.check_loop.marking.Mark.TheVariants as mark
use Rattle.sd_checker.specs.declared.check_loop.marking.Step.{Step}
use Rattle.sd_checker.specs.declared.check_loop.marking.Step.TheVariants as step
use Rattle.sd_checker.proofs.check_loop.Markers.{kept, from_before, both_map, place_of, has_place}

-- a mark that is neither new nor entered stays ranked where a place with another mark is entered
module _ (graph : List Successors) (marks : List Mark) (stack : List ℕ) (s : IsSearch graph marks stack) (x : ℕ) (within : x < length graph) where
  there : x < length marks
  there = omega (arith, s.size)

  -- the element of a longer stack
  early : (k : ℕ) → k < length stack → get_or (stack ++ x ∷ []) k 0 ≡ get_or stack k 0
  early k before = get_or_append_left stack (x ∷ []) 0 k before

  late : (k : ℕ) → k ≡ length stack → get_or (stack ++ x ∷ []) k 0 ≡ x
  late k last = get_or_push stack x 0 k (sym last)

  module _ (new : mark_at marks x ≡ mark.New) where
    entered_ranked : AreRanked graph (put marks x mark.Entered)
    entered_ranked =
        record {
          rank = s.ranked.rank;
          falls = λ i ending.
              elim (from_before marks x i mark.Entered mark.Ending there ending) [
                | inl here ↦ absurd (not_ending here.1)
                | inr before ↦ both_map (successors_at graph i) (λ j ends. (kept marks x j mark.Entered mark.New mark.Ending new ends.0 new_differs, ends.1))
                    (s.ranked.falls i before.1)
              ];
        }
      where
        not_ending : mark.Entered ≡ mark.Ending → ⊥
        not_ending same = cc

        new_differs : mark.New ≡ mark.Ending → ⊥
        new_differs same = cc

    entered_goes_on : GoOn graph (put marks x mark.Entered)
    entered_goes_on i endless =
        elim (from_before marks x i mark.Entered mark.Endless there endless) [
          | inl here ↦ absurd (not_endless here.1)
          | inr before ↦ (let next = s.goes_on i before.1 in (next.0, next.1, kept marks x next.0 mark.Entered mark.New mark.Endless new next.2 new_differs))
        ]
      where
        not_endless : mark.Entered ≡ mark.Endless → ⊥
        not_endless same = cc

        new_differs : mark.New ≡ mark.Endless → ⊥
        new_differs same = cc

    new_entered : mark.New ≡ mark.Entered → ⊥
    new_entered same = cc

    fresh : (k : ℕ) → k < length stack → get_or stack k 0 ≢ x
    fresh k before same = new_entered (sym new ∙ ap (mark_at marks) (sym same) ∙ s.entered k before)

    pub search_entered : ((k : ℕ) → k + 1 ≡ length stack → leads graph (get_or stack k 0) x ≡ true)
        → IsSearch graph (put marks x mark.Entered) (stack ++ x ∷ [])
    search_entered led =
        record {
          size = length-set marks x mark.Entered ∙ s.size;
          ranked = entered_ranked;
          goes_on = entered_goes_on;
          entered = λ k below.
              elim (cases_lt k (length stack)) [
                | inl before ↦ rw (early k before) (kept marks x (get_or stack k 0) mark.Entered mark.New mark.Entered new (s.entered k before) new_entered)
                | inr after ↦ rw (late k (at_end k below after)) (get_or-set_same marks x mark.Entered mark.Ending there)
              ];
          within = λ k below.
              elim (cases_lt k (length stack)) [
                | inl before ↦ rw (early k before) (s.within k before)
                | inr after ↦ rw (late k (at_end k below after)) within
              ];
          apart = λ k l order below.
              elim (cases_lt l (length stack)) [
                | inl before ↦ (let first : k < length stack = omega arith in rw (early k first, early l before) (s.apart k l order before))
                | inr after ↦ (let first : k < length stack = omega (arith, at_end l below after) in
                    rw (early k first, late l (at_end l below after)) (fresh k first))
              ];
          chain = λ k below.
              elim (cases_lt (k + 1) (length stack)) [
                | inl before ↦ (let first : k < length stack = omega arith in rw (early k first, early (k + 1) before) (s.chain k before))
                | inr after ↦ (let first : k < length stack = omega (arith, at_end (k + 1) below after) in
                    rw (early k first, late (k + 1) (at_end (k + 1) below after)) (led k (at_end (k + 1) below after)))
              ];
          stacked = λ i entered.
              elim (from_before marks x i mark.Entered mark.Entered there entered) [
                | inl here ↦ (length stack, omega (arith, length_push stack x), late (length stack) refl ∙ sym here.0)
                | inr before ↦ (let old = s.stacked i before.1 in (old.0, omega (arith, old.1, length_push stack x), early old.0 old.1 ∙ old.2))
              ];
        }
      where
        at_end : (k : ℕ) → k < length (stack ++ x ∷ []) → length stack ≤ k → k ≡ length stack
        at_end k below after = omega (arith, length_push stack x)

-- a rank that is raised at one place
abbrev raised : (ℕ → ℕ) → ℕ → ℕ → ℕ → ℕ
raised rank top n i = if nat_eq i top then n else rank i

abbrev rank_of : (ℕ → ℕ) → Option ℕ → ℕ
rank_of rank None = 0
rank_of rank (Some j) = rank j

-- the top of a stack is done with
module _ (graph : List Successors) (marks : List Mark) (stack : List ℕ) (s : IsSearch graph marks stack) (n : ℕ) (is : n + 1 ≡ length stack) where
  abbrev top : ℕ
  top = get_or stack n 0

  top_entered : mark_at marks top ≡ mark.Entered
  top_entered = s.entered n (omega arith)

  top_there : top < length marks
  top_there = let here = s.within n (omega arith) in omega (arith, here, s.size)

  entered_ending : mark.Entered ≡ mark.Ending → ⊥
  entered_ending same = cc

  entered_endless : mark.Entered ≡ mark.Endless → ⊥
  entered_endless same = cc

  ending_endless : mark.Ending ≡ mark.Endless → ⊥
  ending_endless same = cc

  ending_entered : mark.Ending ≡ mark.Entered → ⊥
  ending_entered same = cc

  -- what ends is not the top
  other_ends : (j : ℕ) → mark_at marks j ≡ mark.Ending → j ≢ top
  other_ends j ends same = entered_ending (sym top_entered ∙ ap (mark_at marks) (sym same) ∙ ends)

  same_rank : (rank : ℕ → ℕ) (m j : ℕ) → j ≢ top → raised rank top m j ≡ rank j
  same_rank rank m j apart = cond-false (nat_eq j top) m (rank j) (ne_eqb j top apart)

  top_rank : (rank : ℕ → ℕ) (m i : ℕ) → i ≡ top → raised rank top m i ≡ m
  top_rank rank m i same = cond-true (nat_eq i top) m (rank i) (eq-eqb i top same)

  module _ (ends : BothAre (λ j. mark_at marks j ≡ mark.Ending) (successors_at graph top)) where
    -- more than the ranks of both successors
    abbrev high : ℕ
    high = suc (rank_of s.ranked.rank (successors_at graph top).primary + rank_of s.ranked.rank (successors_at graph top).backup)

    ends_still : (j : ℕ) → mark_at marks j ≡ mark.Ending → mark_at (put marks top mark.Ending) j ≡ mark.Ending
    ends_still j ending = kept marks top j mark.Ending mark.Entered mark.Ending top_entered ending entered_ending

    below_one : (o : Option ℕ) (i : ℕ) → i ≡ top → rank_of s.ranked.rank o < high → IfSome o (λ j. mark_at marks j ≡ mark.Ending)
        → IfSome o (EndsBelow (put marks top mark.Ending) (raised s.ranked.rank top high) i)
    below_one None i same below ending = tt
    below_one (Some j) i same below ending =
        (ends_still j ending, rw (same_rank s.ranked.rank high j (other_ends j ending), top_rank s.ranked.rank high i same) below)

    first_below : rank_of s.ranked.rank (successors_at graph top).primary < high
    first_below = omega arith

    second_below : rank_of s.ranked.rank (successors_at graph top).backup < high
    second_below = omega arith

    at_top : (i : ℕ) → i ≡ top → BothAre (EndsBelow (put marks top mark.Ending) (raised s.ranked.rank top high) i) (successors_at graph i)
    at_top i same =
        subst (λ (x : ℕ). BothAre (EndsBelow (put marks top mark.Ending) (raised s.ranked.rank top high) i) (successors_at graph x)) (sym same)
        (below_one (successors_at graph top).primary i same first_below ends.0, below_one (successors_at graph top).backup i same second_below ends.1)

    finished_ranked : AreRanked graph (put marks top mark.Ending)
    finished_ranked =
        record {
          rank = raised s.ranked.rank top high;
          falls = λ i ending.
              elim (from_before marks top i mark.Ending mark.Ending top_there ending) [
                | inl here ↦ at_top i here.0
                | inr before ↦ both_map (successors_at graph i)
                    (λ j below. (
                      ends_still j below.0,
                      rw (same_rank s.ranked.rank high j (other_ends j below.0), same_rank s.ranked.rank high i before.0)
                          below.1,
                    ))
                    (s.ranked.falls i before.1)
              ];
        }

    finished_goes_on : GoOn graph (put marks top mark.Ending)
    finished_goes_on i endless =
        elim (from_before marks top i mark.Ending mark.Endless top_there endless) [
          | inl here ↦ absurd (ending_endless here.1)
          | inr before ↦ (let next = s.goes_on i before.1 in
              (next.0, next.1, kept marks top next.0 mark.Ending mark.Entered mark.Endless top_entered next.2 entered_endless))
        ]

    front : (k : ℕ) → k < n → get_or (take n stack) k 0 ≡ get_or stack k 0
    front k before = get_or-take n stack k 0 before

    size_front : length (take n stack) ≡ n
    size_front = length-take-le n stack (omega arith)

    -- what stands below the top is not the top
    not_top : (k : ℕ) → k < n → get_or stack k 0 ≢ top
    not_top k before = s.apart k n before (omega arith)

    pub search_finished : IsSearch graph (put marks top mark.Ending) (take n stack)
    search_finished =
        record {
          size = length-set marks top mark.Ending ∙ s.size;
          ranked = finished_ranked;
          goes_on = finished_goes_on;
          entered = λ k below.
              let before : k < n = omega (arith, size_front) in
              rw (front k before) (get_or-set_other marks top (get_or stack k 0) mark.Ending mark.Ending (not_top k before) ∙ s.entered k (omega arith));
          within = λ k below.
              let before : k < n = omega (arith, size_front) in
              rw (front k before) (s.within k (omega arith));
          apart = λ k l order below.
              let last : l < n = omega (arith, size_front) in
              let before : k < n = omega arith in
              rw (front k before, front l last) (s.apart k l order (omega arith));
          chain = λ k below.
              let last : k + 1 < n = omega (arith, size_front) in
              let before : k < n = omega arith in
              rw (front k before, front (k + 1) last) (s.chain k (omega arith));
          stacked = λ i entered.
              elim (from_before marks top i mark.Ending mark.Entered top_there entered) [
                | inl here ↦ absurd (ending_entered here.1)
                | inr before ↦ still_there i before.0 (s.stacked i before.1)
              ];
        }
      where
        still_there : (i : ℕ) → i ≢ top → ((k : ℕ) × (k < length stack) × (get_or stack k 0 ≡ i))
            → (k : ℕ) × (k < length (take n stack)) × (get_or (take n stack) k 0 ≡ i)
        still_there i apart old =
            let below : old.0 < n =
            elim (cases_eq old.0 n) [ inl last ↦ absurd (apart (sym old.2 ∙ ap (λ (k : ℕ). get_or stack k 0) last)) | inr other ↦ omega (arith, old.1) ] in
            (old.0, omega (arith, size_front), front old.0 below ∙ old.2)

-- the same, as the code has it
pub finished_at : (graph : List Successors) (marks : List Mark) (stack left : List ℕ) (size x : ℕ) → IsSearch graph marks stack → size ≡ length stack
    → 0 < length stack
    → ((k : ℕ) → k + 1 ≡ length stack → get_or stack k 0 ≡ x) → BothAre (λ j. mark_at marks j ≡ mark.Ending) (successors_at graph x)
    → left ≡ take (size - 1) stack
    → IsSearch graph (put marks x mark.Ending) left
finished_at graph marks stack left size x s sized some at ends is =
    let last : size - 1 + 1 ≡ length stack = omega arith in
    let here : get_or stack (size - 1) 0 ≡ x = at (size - 1) last in
    subst (λ (rest : List ℕ). IsSearch graph (put marks x mark.Ending) rest) (sym is)
    (subst (λ (y : ℕ). IsSearch graph (put marks y mark.Ending) (take (size - 1) stack)) here
    (search_finished graph marks stack s (size - 1) last
    (subst (λ (y : ℕ). BothAre (λ j. mark_at marks j ≡ mark.Ending) (successors_at graph y)) (sym here) ends)))

-- one of the two marks that condemn
condemns : (j : ℕ) (m : Mark) → step_by j m ≡ step.Condemn → (m ≡ mark.Entered) ⊎ (m ≡ mark.Endless)
condemns j mark.New is = cc
condemns j mark.Entered is = inl refl
condemns j mark.Ending is = cc
condemns j mark.Endless is = inr refl

-- all on the stack is condemned
module _ (graph : List Successors) (marks after : List Mark) (stack : List ℕ) (s : IsSearch graph marks stack) (size : length after ≡ length marks)
    (changed : (i : ℕ) → mark_at after i ≡ (if has stack i then mark.Endless else mark_at marks i))
    (endless : (k : ℕ) → k + 1 ≡ length stack → (j : ℕ) × (leads graph (get_or stack k 0) j ≡ true) × (step_by j (mark_at marks j) ≡ step.Condemn)) where
  on_stack : (i : ℕ) → has stack i ≡ true → mark_at after i ≡ mark.Endless
  on_stack i on = changed i ∙ cond-true (has stack i) mark.Endless (mark_at marks i) on

  off_stack : (i : ℕ) → has stack i ≡ false → mark_at after i ≡ mark_at marks i
  off_stack i off = changed i ∙ cond-false (has stack i) mark.Endless (mark_at marks i) off

  is_entered : (i : ℕ) → has stack i ≡ true → mark_at marks i ≡ mark.Entered
  is_entered i on = let place = place_of stack i on in ap (mark_at marks) (sym place.2) ∙ s.entered place.0 place.1

  is_on : (i : ℕ) → mark_at marks i ≡ mark.Entered → has stack i ≡ true
  is_on i entered = let place = s.stacked i entered in has_place stack place.0 i place.1 place.2

  -- a mark that is not of the stack
  is_off : (i : ℕ) (m : Mark) → (mark.Entered ≡ m → ⊥) → mark_at marks i ≡ m → has stack i ≡ false
  is_off i m other at = false_from_ne_true (has stack i) (λ on. other (sym (is_entered i on) ∙ at))

  -- a mark that comes from before
  not_changed : (i : ℕ) (m : Mark) → (mark.Endless ≡ m → ⊥) → mark_at after i ≡ m → (has stack i ≡ false) × (mark_at marks i ≡ m)
  not_changed i m other at =
      let off = false_from_ne_true (has stack i) (λ on. other (sym (on_stack i on) ∙ at)) in
      (off, sym (off_stack i off) ∙ at)

  -- what is endless stays so, and what is on the stack becomes it
  now_endless : (i : ℕ) → (mark_at marks i ≡ mark.Entered) ⊎ (mark_at marks i ≡ mark.Endless) → mark_at after i ≡ mark.Endless
  now_endless i (inl entered) = on_stack i (is_on i entered)
  now_endless i (inr before) = off_stack i (is_off i mark.Endless differ before) ∙ before
    where
      differ : mark.Entered ≡ mark.Endless → ⊥
      differ same = cc

  -- a place on the stack leads to an endless one
  goes_on_from : (i k : ℕ) → k < length stack → get_or stack k 0 ≡ i → (j : ℕ) × (leads graph i j ≡ true) × (mark_at after j ≡ mark.Endless)
  goes_on_from i k below at =
      elim (cases_eq (k + 1) (length stack)) [
        | inl last ↦ (let next = endless k last in
            (next.0, subst (λ (x : ℕ). leads graph x next.0 ≡ true) at next.1, now_endless next.0 (condemns next.0 (mark_at marks next.0) next.2)))
        | inr more ↦ (let before : k + 1 < length stack = omega arith in (
          get_or stack (k + 1) 0,
          subst (λ (x : ℕ). leads graph x (get_or stack (k + 1) 0) ≡ true) at (s.chain k before),
          now_endless
              (get_or stack (k + 1) 0) (inl (s.entered (k + 1) before)),
        ))
      ]

  pub search_condemned : IsSearch graph after []
  search_condemned =
      record {
        size = size ∙ s.size;
        ranked = record {
          rank = s.ranked.rank;
          falls = λ i ending.
              let before = not_changed i mark.Ending endless_ending ending in
              both_map (successors_at graph i) (λ j below. (off_stack j (is_off j mark.Ending entered_ends below.0) ∙ below.0, below.1))
              (s.ranked.falls i before.1);
        };
        goes_on = λ i at.
            elim (cases_Bool (has stack i)) [
              | inl on ↦ (let place = place_of stack i on in goes_on_from i place.0 place.1 place.2)
              | inr off ↦ (let next = s.goes_on i (sym (off_stack i off) ∙ at) in (next.0, next.1, now_endless next.0 (inr next.2)))
            ];
        entered = λ k below. absurd (omega arith);
        within = λ k below. absurd (omega arith);
        apart = λ k l order below. absurd (omega arith);
        chain = λ k below. absurd (omega arith);
        stacked = λ i entered.
            let before = not_changed i mark.Entered endless_entered entered in
            absurd (both_ways (has stack i) before.0 (is_on i before.1));
      }
    where
      endless_ending : mark.Endless ≡ mark.Ending → ⊥
      endless_ending same = cc

      endless_entered : mark.Endless ≡ mark.Entered → ⊥
      endless_entered same = cc

      entered_ends : mark.Entered ≡ mark.Ending → ⊥
      entered_ends same = cc

to_condemn : (marks : List Mark) (o : Option ℕ) → step_to marks o ≡ step.Condemn → (j : ℕ) × (o ≡ Some j) × (step_by j (mark_at marks j) ≡ step.Condemn)
to_condemn marks None is = cc
to_condemn marks (Some i) is = (i, refl, is)

is_condemned_by : (a b : Step) → first_step a b ≡ step.Condemn → (a ≡ step.Condemn) ⊎ (b ≡ step.Condemn)
is_condemned_by step.Finish b is = inr is
is_condemned_by (step.Enter i) b is = cc
is_condemned_by step.Condemn b is = inl is

-- a successor is led to
pub leads_first : (graph : List Successors) (i j : ℕ) → (successors_at graph i).primary ≡ Some j → leads graph i j ≡ true
leads_first graph i j is = or_left (same_number (successors_at graph i).primary j) (same_number (successors_at graph i).backup j) (rw is (eq-eqb j j refl))

pub leads_second : (graph : List Successors) (i j : ℕ) → (successors_at graph i).backup ≡ Some j → leads graph i j ≡ true
leads_second graph i j is = or_right (same_number (successors_at graph i).primary j) (same_number (successors_at graph i).backup j) (rw is (eq-eqb j j refl))

pub is_condemned : (graph : List Successors) (marks : List Mark) (i : ℕ) → step_at graph marks i ≡ step.Condemn
    → (j : ℕ) × (leads graph i j ≡ true) × (step_by j (mark_at marks j) ≡ step.Condemn)
is_condemned graph marks i is =
    let s = successors_at graph i in
    elim (is_condemned_by (step_to marks s.primary) (step_to marks s.backup) is) [
      | inl here ↦ (let next = to_condemn marks s.primary here in (next.0, leads_first graph i next.0 next.1, next.2))
      | inr here ↦ (let next = to_condemn marks s.backup here in (next.0, leads_second graph i next.0 next.1, next.2))
    ]

-- a mark that is new only where another is counts no more
no_more : (x y : Mark) → (x ≡ mark.New → y ≡ mark.New) → cond (is_new x) 1 0 ≤ cond (is_new y) 1 0
no_more mark.New y new = rw (new refl) (omega arith)
no_more mark.Entered y new = omega arith
no_more mark.Ending y new = omega arith
no_more mark.Endless y new = omega arith

-- where none is newer, no more are new
fewer_new : (after before : List Mark) → length after ≡ length before → NoneNewer before after → count_by is_new after ≤ count_by is_new before
fewer_new [] [] size newer = omega arith
fewer_new [] (y ∷ ys) size newer = absurd (omega arith)
fewer_new (x ∷ xs) [] size newer = absurd (omega arith)
fewer_new (x ∷ xs) (y ∷ ys) size newer =
    let first : cond (is_new x) 1 0 ≤ cond (is_new y) 1 0 = no_more x y (newer 0) in
    let rest : count_by is_new xs ≤ count_by is_new ys = fewer_new xs ys (omega arith) (λ i new. newer (suc i) new) in
    let here : count_by is_new (x ∷ xs) ≡ cond (is_new x) 1 0 + count_by is_new xs = sum_by-cons (λ m. cond (is_new m) 1 0) x xs in
    let there : count_by is_new (y ∷ ys) ≡ cond (is_new y) 1 0 + count_by is_new ys = sum_by-cons (λ m. cond (is_new m) 1 0) y ys in
    omega (arith, first, rest, here, there)

-- what comes of the whole stack, as the code has it
module _ (graph : List Successors) (marks seen after : List Mark) (stack listed : List ℕ) (n : ℕ) (is : seen ≡ marks) (are : listed ≡ stack)
    (sized : n ≡ length marks) (kept_size : length after ≡ length seen)
    (made : (i : ℕ) → mark_at after i ≡ (if has listed i then mark.Endless else mark_at seen i)) where
  size_kept : length after ≡ length marks
  size_kept = kept_size ∙ ap (λ (xs : List Mark). length xs) is

  changed_so : (i : ℕ) → mark_at after i ≡ (if has stack i then mark.Endless else mark_at marks i)
  changed_so i =
      subst (λ (xs : List Mark). mark_at after i ≡ (if has stack i then mark.Endless else mark_at xs i)) is
      (subst (λ (xs : List ℕ). mark_at after i ≡ (if has xs i then mark.Endless else mark_at seen i)) are (made i))

  written : take n (after ++ drop (length after) marks) ≡ after
  written = take_at after (drop (length after) marks) n (size_kept ∙ sym sized)

  pub condemned_at : IsSearch graph marks stack
      → ((k : ℕ) → k + 1 ≡ length stack → (j : ℕ) × (leads graph (get_or stack k 0) j ≡ true) × (step_by j (mark_at marks j) ≡ step.Condemn))
      → (left : List ℕ) → left ≡ [] → IsSearch graph (take n (after ++ drop (length after) marks)) left
  condemned_at s endless left none =
      subst (λ (xs : List Mark). IsSearch graph xs left) (sym written)
      (subst (λ (xs : List ℕ). IsSearch graph after xs) (sym none) (search_condemned graph marks after stack s size_kept changed_so endless))

  -- what is not of the stack has the mark that it had, and what is of it is not new
  no_newer : NoneNewer marks after
  no_newer i new =
      elim (cases_Bool (has stack i)) [
        | inl on ↦ absurd (differ (sym (changed_so i ∙ cond-true (has stack i) mark.Endless (mark_at marks i) on) ∙ new))
        | inr off ↦ sym (changed_so i ∙ cond-false (has stack i) mark.Endless (mark_at marks i) off) ∙ new
      ]
    where
      differ : mark.Endless ≡ mark.New → ⊥
      differ same = cc

  pub condemned_left : 0 < length stack → (left : List ℕ) → left ≡ [] → search_left (take n (after ++ drop (length after) marks)) left < search_left marks stack
  condemned_left some left none =
      rw (written, none) (omega (arith, fewer_new after marks size_kept no_newer))

-- before the search all are new
module _ (graph : List Successors) (marks : List Mark) (is : marks ≡ replicate (length graph) mark.New) where
  at_first : (i : ℕ) → i < length graph → mark_at marks i ≡ mark.New
  at_first i before = ap (λ (xs : List Mark). mark_at xs i) is ∙ get_or-replicate (length graph) i mark.New mark.Ending before

  -- no other mark is there
  not_there : (i : ℕ) (m : Mark) → (mark.New ≡ m → ⊥) → mark_at marks i ≡ m → length graph ≤ i
  not_there i m other at =
      elim (cases_lt i (length graph)) [
        | inl before ↦ absurd (other (sym (at_first i before) ∙ at))
        | inr past ↦ past
      ]

  size_first : length marks ≡ length graph
  size_first = ap (λ (xs : List Mark). length xs) is ∙ length-replicate (length graph) mark.New

  past_all : (i : ℕ) (m : Mark) → (mark.New ≡ m → ⊥) → (mark.Ending ≡ m → ⊥) → mark_at marks i ≡ m → ⊥
  past_all i m not_new not_ending at =
      not_ending (sym (get_or_past marks i mark.Ending (omega (arith, size_first, not_there i m not_new at))) ∙ at)

  pub search_begun : IsSearch graph marks []
  search_begun =
      record {
        size = size_first;
        ranked = record {
          rank = λ i. 0;
          falls = λ i ending.
              let none : successors_at graph i ≡ no_successors = get_or_past graph i no_successors (not_there i mark.Ending new_ending ending) in
              subst (λ (s : Successors). BothAre (EndsBelow marks (λ i. 0) i) s) (sym none) (tt, tt);
        };
        goes_on = λ i endless. absurd (past_all i mark.Endless new_endless ending_endless endless);
        entered = λ k below. absurd (omega arith);
        within = λ k below. absurd (omega arith);
        apart = λ k l order below. absurd (omega arith);
        chain = λ k below. absurd (omega arith);
        stacked = λ i entered. absurd (past_all i mark.Entered new_entered ending_entered entered);
      }
    where
      new_ending : mark.New ≡ mark.Ending → ⊥
      new_ending same = cc

      new_endless : mark.New ≡ mark.Endless → ⊥
      new_endless same = cc

      ending_endless : mark.Ending ≡ mark.Endless → ⊥
      ending_endless same = cc

      new_entered : mark.New ≡ mark.Entered → ⊥
      new_entered same = cc

      ending_entered : mark.Ending ≡ mark.Entered → ⊥
      ending_entered same = cc

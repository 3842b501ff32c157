-- A round joins the runs on both sides of it.
use Rattle.std.proofs.Common.{◌≡◌, ◌≢◌, ℕ, ◌+◌, ◌-◌, ◌^◌, ◌<◌, ◌≤◌, Bool, true, false, cond, ◌||◌, ◌&&◌, Option, Some, None, unwrap_or, nat_eq, ◌⊎◌, inl, inr, refl, sym, ◌∙◌, ap, subst, arith}
use Rattle.std.specs.Option.{is_some}
use Rattle.std.proofs.lemmas.Bool.{cases_lt, cases_eq, cases_order, eq-eqb, ne_eqb, or_left, or_right, or_parts, or_from, or_cases, eqb-true, both_ways}
use Rattle.sd_monitors.specs.loss.flights.Runs.{IsRun, AreRuns, ReachesBack, ReachesOn}

-- where the one before stands an end of a run, the run reaches back from the round
pub reaches_back : (ends : ℕ → Option ℕ) (round before first : ℕ) → AreRuns ends → before + 1 ≡ round → is_some (ends round) ≡ false → ends before ≡ Some first
    → ReachesBack ends round first
reaches_back ends round before first runs next absent beside =
    let P : ℕ → Type 0 = λ n. is_some (ends n) ≡ false in
    let run : IsRun ends first before = runs.from_last before first beside (subst P (sym next) absent) in
    record { order = omega (arith, run.order, next); each = λ r low high. run.each r low (omega (arith, high, next)); before = run.before }

-- where the one before is not there, the round begins a run
pub begins : (ends : ℕ → Option ℕ) (round : ℕ) → ((p : ℕ) → p + 1 ≡ round → is_some (ends p) ≡ false) → ReachesBack ends round round
begins ends round none = record { order = omega arith; each = λ r low high. absurd (omega (arith, low, high)); before = none }

-- where the one after stands an end of a run, the run reaches on from the round
pub reaches_on : (ends : ℕ → Option ℕ) (round last : ℕ) → AreRuns ends → is_some (ends round) ≡ false → ends (round + 1) ≡ Some last → ReachesOn ends round last
reaches_on ends round last runs absent beside =
    let P : ℕ → Type 0 = λ n. is_some (ends n) ≡ false in
    let run : IsRun ends (round + 1) last =
    runs.from_first (round + 1) last beside (λ p next. let same : round ≡ p = omega (arith, next) in subst P same absent) in
    record { order = omega (arith, run.order); each = λ r low high. run.each r (omega (arith, low)) high; after = run.after }

-- where the one after is not there, the round ends a run
pub stops : (ends : ℕ → Option ℕ) (round : ℕ) → is_some (ends (round + 1)) ≡ false → ReachesOn ends round round
stops ends round none = record { order = omega arith; each = λ r low high. absurd (omega (arith, low, high)); after = none }

-- what a look at the one before finds, or else the round itself
pub looked_back : (ends : ℕ → Option ℕ) (round before : ℕ) (found : Option ℕ) → AreRuns ends → is_some (ends round) ≡ false → before + 1 ≡ round
    → ends before ≡ found → ReachesBack ends round (unwrap_or found round)
looked_back ends round before None runs absent next is =
    begins ends round (λ p next'. let same : before ≡ p = omega (arith, next, next') in subst (λ (n : ℕ). is_some (ends n) ≡ false) same (ap is_some is))
looked_back ends round before (Some first) runs absent next is = reaches_back ends round before first runs next absent is

-- and at the one after
pub looked_on : (ends : ℕ → Option ℕ) (round : ℕ) (found : Option ℕ) → AreRuns ends → is_some (ends round) ≡ false → ends (round + 1) ≡ found
    → ReachesOn ends round (unwrap_or found round)
looked_on ends round None runs absent is = stops ends round (ap is_some is)
looked_on ends round (Some last) runs absent is = reaches_on ends round last runs absent is

-- nor one after the greatest
pub none_after : (ends : ℕ → Option ℕ) (round : ℕ) → AreRuns ends → 2 ^ 64 ≤ round + 1 → ReachesOn ends round round
none_after ends round runs great = stops ends round (past (is_some (ends (round + 1))) refl)
  where
    past : (b : Bool) → is_some (ends (round + 1)) ≡ b → is_some (ends (round + 1)) ≡ false
    past false is = is
    past true is = absurd (omega (arith, great, runs.fit (round + 1) is))

-- what changes where a round joins the run from the first to the last
pub record Joins (old new : ℕ → Option ℕ) (round first last : ℕ) : Type 0 where
  pub back : ReachesBack old round first
  pub on : ReachesOn old round last
  pub rounds : (r : ℕ) → is_some (new r) ≡ (is_some (old r) || nat_eq round r)
  pub at_first : new first ≡ Some last
  pub at_last : new last ≡ Some first
  pub others : (r : ℕ) → r ≢ first → r ≢ last → r ≢ round → new r ≡ old r

-- so it is where the round is put beside itself, and then each end beside the other
pub joins : (old new : ℕ → Option ℕ) (round first last : ℕ) → ReachesBack old round first → ReachesOn old round last
    → ((r : ℕ) → new r ≡ cond (nat_eq last r) (Some first) (cond (nat_eq first r) (Some last) (cond (nat_eq round r) (Some round) (old r))))
    → Joins old new round first last
joins old new round first last back on is =
    record {
      back = back;
      on = on;
      rounds = λ r. ap is_some (is r) ∙ there r (cases_eq last r) (cases_eq first r) (cases_eq round r);
      at_first = is first ∙ by_last (cases_eq last first);
      at_last = is last ∙ rw (eq-eqb last last refl) refl;
      others = λ r a b c. is r ∙ rw (ne_eqb last r (λ e. b (sym e)), ne_eqb first r (λ e. a (sym e)), ne_eqb round r (λ e. c (sym e))) refl;
    }
  where
    by_last : (last ≡ first) ⊎ (last ≡ first → ⊥)
        → cond (nat_eq last first) (Some first) (cond (nat_eq first first) (Some last) (cond (nat_eq round first) (Some round) (old first))) ≡ Some last
    by_last (inl same) = rw (eq-eqb last first same) (ap (λ (n : ℕ). Some n) (sym same))
    by_last (inr other) = rw (ne_eqb last first other, eq-eqb first first refl) refl

    was_there : (r : ℕ) → first ≤ r → r ≤ last → (round ≡ r → ⊥) → is_some (old r) ≡ true
    was_there r low high other = side (cases_lt r round)
      where
        side : (r < round) ⊎ (round ≤ r) → is_some (old r) ≡ true
        side (inl less) = back.each r low less
        side (inr more) = on.each r (omega (arith, more, other)) high

    found : (r : ℕ) → first ≤ r → r ≤ last → (round ≡ r) ⊎ (round ≡ r → ⊥) → true ≡ (is_some (old r) || nat_eq round r)
    found r low high (inl same) = sym (or_right (is_some (old r)) (nat_eq round r) (eq-eqb round r same))
    found r low high (inr other) = sym (or_left (is_some (old r)) (nat_eq round r) (was_there r low high other))

    or_nothing : (b : Bool) → b ≡ (b || false)
    or_nothing true = refl
    or_nothing false = refl

    there : (r : ℕ) → (last ≡ r) ⊎ (last ≡ r → ⊥) → (first ≡ r) ⊎ (first ≡ r → ⊥) → (round ≡ r) ⊎ (round ≡ r → ⊥)
        → is_some (cond (nat_eq last r) (Some first) (cond (nat_eq first r) (Some last) (cond (nat_eq round r) (Some round) (old r))))
        ≡ (is_some (old r) || nat_eq round r)
    there r (inl at_last) at_first at_round =
        rw (eq-eqb last r at_last) (found r (omega (arith, back.order, on.order, at_last)) (omega (arith, at_last)) at_round)
    there r (inr not_last) (inl at_first) at_round =
        rw (ne_eqb last r not_last, eq-eqb first r at_first) (found r (omega (arith, at_first)) (omega (arith, back.order, on.order, at_first)) at_round)
    there r (inr not_last) (inr not_first) (inl at_round) =
        rw (ne_eqb last r not_last, ne_eqb first r not_first, eq-eqb round r at_round) (sym (or_right (is_some (old r)) true refl))
    there r (inr not_last) (inr not_first) (inr not_round) =
        rw (ne_eqb last r not_last, ne_eqb first r not_first, ne_eqb round r not_round) (or_nothing (is_some (old r)))

module _ (old new : ℕ → Option ℕ) (round first last : ℕ) (j : Joins old new round first last) where
  -- a round that was there is still there
  stays : (r : ℕ) → is_some (old r) ≡ true → is_some (new r) ≡ true
  stays r there = j.rounds r ∙ or_left (is_some (old r)) (nat_eq round r) there

  -- one that is not there was not there
  was_absent : (r : ℕ) → is_some (new r) ≡ false → is_some (old r) ≡ false
  was_absent r absent = (or_parts (is_some (old r)) (nat_eq round r) (sym (j.rounds r) ∙ absent)).0

  -- another one that was not there is not there
  still_absent : (r : ℕ) → r ≢ round → is_some (old r) ≡ false → is_some (new r) ≡ false
  still_absent r other absent = j.rounds r ∙ or_from (is_some (old r)) (nat_eq round r) absent (ne_eqb round r (λ e. other (sym e)))

  within : (r : ℕ) → first ≤ r → r ≤ last → is_some (new r) ≡ true
  within r low high = by_order (cases_order r round)
    where
      by_order : (r ≡ round) ⊎ ((r < round) ⊎ (round < r)) → is_some (new r) ≡ true
      by_order (inl same) = j.rounds r ∙ or_right (is_some (old r)) (nat_eq round r) (eq-eqb round r (sym same))
      by_order (inr (inl less)) = stays r (j.back.each r low less)
      by_order (inr (inr more)) = stays r (j.on.each r more high)

  -- the run that the round is in
  pub joined_run : IsRun new first last
  joined_run =
      record {
        order = omega (arith, j.back.order, j.on.order);
        each = within;
        before = λ r next. still_absent r (λ e. omega (arith, j.back.order, next, e)) (j.back.before r next);
        after = still_absent (last + 1) (λ e. omega (arith, j.on.order, e)) j.on.after;
      }

  -- a run that does not touch the round is as it was
  kept : (a b : ℕ) → IsRun old a b → (round + 1 ≡ a → ⊥) → (b + 1 ≡ round → ⊥) → IsRun new a b
  kept a b run not_after not_before =
      record {
        order = run.order;
        each = λ i low high. stays i (run.each i low high);
        before = λ p next. still_absent p (λ same. not_after (omega (arith, next, same))) (run.before p next);
        after = still_absent (b + 1) not_before run.after;
      }

  -- the two runs would touch
  touching : (a b n : ℕ) → IsRun old a b → a ≤ n → n ≤ b → is_some (old n) ≡ false → ⊥
  touching a b n run low high absent = both_ways (is_some (old n)) absent (run.each n low high)

  -- a run with its first round apart from the joined one
  kept_first : (a b : ℕ) → IsRun old a b → (a < first) ⊎ (last < a) → IsRun new a b
  kept_first a b run (inl less) =
      kept a b run (λ next. omega (arith, j.back.order, less, next))
      (λ next. touching a b (first - 1) run (omega (arith, less)) (omega (arith, j.back.order, next)) (j.back.before (first - 1) (omega (arith, less))))
  kept_first a b run (inr more) =
      kept a b run (λ next. touching a b (last + 1) run (omega (arith, j.on.order, more, next)) (omega (arith, run.order, more)) j.on.after)
      (λ next. omega (arith, j.on.order, run.order, more, next))

  -- a run with its last round apart from the joined one
  kept_last : (a b : ℕ) → IsRun old a b → (b < first) ⊎ (last < b) → IsRun new a b
  kept_last a b run (inl less) =
      kept a b run (λ next. omega (arith, j.back.order, run.order, less, next))
      (λ next. touching a b (first - 1) run (omega (arith, j.back.order, run.order, less, next)) (omega (arith, j.back.order, less, next))
      (j.back.before (first - 1) (omega (arith, less))))
  kept_last a b run (inr more) =
      kept a b run (λ next. touching a b (last + 1) run (omega (arith, j.on.order, next)) (omega (arith, more)) j.on.after)
      (λ next. omega (arith, j.on.order, more, next))

  -- the round is an end of the joined run, inside it, or apart from it
  place_of : (r : ℕ) → (r ≡ first) ⊎ ((r ≡ last) ⊎ (((first < r) × (r < last)) ⊎ ((r < first) ⊎ (last < r))))
  place_of r = by_first (cases_order r first)
    where
      by_last : first < r → (r ≡ last) ⊎ ((r < last) ⊎ (last < r)) → (r ≡ first) ⊎ ((r ≡ last) ⊎ (((first < r) × (r < last)) ⊎ ((r < first) ⊎ (last < r))))
      by_last more (inl same) = inr (inl same)
      by_last more (inr (inl less)) = inr (inr (inl (more, less)))
      by_last more (inr (inr past)) = inr (inr (inr (inr past)))

      by_first : (r ≡ first) ⊎ ((r < first) ⊎ (first < r)) → (r ≡ first) ⊎ ((r ≡ last) ⊎ (((first < r) × (r < last)) ⊎ ((r < first) ⊎ (last < r))))
      by_first (inl same) = inl same
      by_first (inr (inl less)) = inr (inr (inr (inl less)))
      by_first (inr (inr more)) = by_last more (cases_order r last)

  -- a round apart from the joined run has beside it what it had
  same_beside : (r e : ℕ) → new r ≡ Some e → (r < first) ⊎ (last < r) → old r ≡ Some e
  same_beside r e beside (inl less) =
      sym (j.others r (λ s. omega (arith, less, s)) (λ s. omega (arith, j.back.order, j.on.order, less, s)) (λ s. omega (arith, j.back.order, less, s)))
      ∙ beside
  same_beside r e beside (inr more) =
      sym (j.others r (λ s. omega (arith, j.back.order, j.on.order, more, s)) (λ s. omega (arith, more, s)) (λ s. omega (arith, j.on.order, more, s))) ∙ beside

  -- the round beside it
  beside_is : (r s e x : ℕ) → new r ≡ Some e → r ≡ s → new s ≡ Some x → e ≡ x
  beside_is r s e x beside same there = cc

  first_of : (r e : ℕ) → AreRuns old → new r ≡ Some e → ((p : ℕ) → p + 1 ≡ r → is_some (new p) ≡ false) → IsRun new r e
  first_of r e runs beside alone = by_place (place_of r)
    where
      by_place : (r ≡ first) ⊎ ((r ≡ last) ⊎ (((first < r) × (r < last)) ⊎ ((r < first) ⊎ (last < r)))) → IsRun new r e
      by_place (inl same) =
          subst (λ (n : ℕ). IsRun new n e) (sym same) (subst (λ (n : ℕ). IsRun new first n) (sym (beside_is r first e last beside same j.at_first)) joined_run)
      by_place (inr (inl same)) = at_last (cases_lt first last)
        where
          at_last : (first < last) ⊎ (last ≤ first) → IsRun new r e
          at_last (inl less) =
              absurd (both_ways (is_some (new (r - 1))) (alone (r - 1) (omega (arith, less, same)))
              (within (r - 1) (omega (arith, less, same)) (omega (arith, less, same))))
          at_last (inr no_more) =
              let one : first ≡ last = omega (arith, j.back.order, j.on.order, no_more) in
              subst (λ (n : ℕ). IsRun new n e) (one ∙ sym same)
              (subst (λ (n : ℕ). IsRun new first n) (sym (beside_is r last e first beside same j.at_last ∙ one)) joined_run)
      by_place (inr (inr (inl inside))) =
          absurd (both_ways (is_some (new (r - 1))) (alone (r - 1) (omega (arith, inside.0)))
          (within (r - 1) (omega (arith, inside.0)) (omega (arith, inside.1))))
      by_place (inr (inr (inr apart))) = kept_first r e (runs.from_first r e (same_beside r e beside apart) (λ p next. was_absent p (alone p next))) apart

  last_of : (r e : ℕ) → AreRuns old → new r ≡ Some e → is_some (new (r + 1)) ≡ false → IsRun new e r
  last_of r e runs beside alone = by_place (place_of r)
    where
      by_place : (r ≡ first) ⊎ ((r ≡ last) ⊎ (((first < r) × (r < last)) ⊎ ((r < first) ⊎ (last < r)))) → IsRun new e r
      by_place (inr (inl same)) =
          subst (λ (n : ℕ). IsRun new e n) (sym same) (subst (λ (n : ℕ). IsRun new n last) (sym (beside_is r last e first beside same j.at_last)) joined_run)
      by_place (inl same) = at_first (cases_lt first last)
        where
          at_first : (first < last) ⊎ (last ≤ first) → IsRun new e r
          at_first (inl less) = absurd (both_ways (is_some (new (r + 1))) alone (within (r + 1) (omega (arith, same)) (omega (arith, less, same))))
          at_first (inr no_more) =
              let one : first ≡ last = omega (arith, j.back.order, j.on.order, no_more) in
              subst (λ (n : ℕ). IsRun new e n) (sym one ∙ sym same)
              (subst (λ (n : ℕ). IsRun new n last) (sym (beside_is r first e last beside same j.at_first ∙ sym one)) joined_run)
      by_place (inr (inr (inl inside))) = absurd (both_ways (is_some (new (r + 1))) alone (within (r + 1) (omega (arith, inside.0)) (omega (arith, inside.1))))
      by_place (inr (inr (inr apart))) = kept_last e r (runs.from_last r e (same_beside r e beside apart) (was_absent (r + 1) alone)) apart

  -- all that is kept of runs stays right
  pub joined_runs : round < 2 ^ 64 → AreRuns old → AreRuns new
  joined_runs small runs =
      record {
        from_first = λ r e. first_of r e runs;
        from_last = λ r e. last_of r e runs;
        fit = λ r there. by_case r (or_cases (is_some (old r)) (nat_eq round r) (sym (j.rounds r) ∙ there));
      }
    where
      by_case : (r : ℕ) → (is_some (old r) ≡ true) ⊎ (nat_eq round r ≡ true) → r < 2 ^ 64
      by_case r (inl before) = runs.fit r before
      by_case r (inr here) = subst (λ (n : ℕ). n < 2 ^ 64) (eqb-true round r here) small

-- where each round has beside it what it had, all that is kept stays right
pub same_runs : (old new : ℕ → Option ℕ) → ((r : ℕ) → new r ≡ old r) → AreRuns old → AreRuns new
same_runs old new same runs =
    record {
      from_first = λ r e beside alone. same_run r e (runs.from_first r e (sym (same r) ∙ beside) (λ p next. sym (ap is_some (same p)) ∙ alone p next));
      from_last = λ r e beside alone. same_run e r (runs.from_last r e (sym (same r) ∙ beside) (sym (ap is_some (same (r + 1))) ∙ alone));
      fit = λ r there. runs.fit r (sym (ap is_some (same r)) ∙ there);
    }
  where
    same_run : (a b : ℕ) → IsRun old a b → IsRun new a b
    same_run a b run =
        record {
          order = run.order;
          each = λ r low high. ap is_some (same r) ∙ run.each r low high;
          before = λ p next. ap is_some (same p) ∙ run.before p next;
          after = ap is_some (same (b + 1)) ∙ run.after;
        }

-- The three writes with which a round of a term is added.
module _ (old one two new : ℕ → ℕ → Option ℕ) (term round first last : ℕ)
    (by_itself : (t r : ℕ) → one t r ≡ cond (nat_eq term t && nat_eq round r) (Some round) (old t r))
    (at_first : (t r : ℕ) → two t r ≡ cond (nat_eq term t && nat_eq first r) (Some last) (one t r))
    (at_last : (t r : ℕ) → new t r ≡ cond (nat_eq term t && nat_eq last r) (Some first) (two t r)) where
  -- of another term nothing changes
  pub elsewhere : (t : ℕ) → (term ≡ t → ⊥) → (r : ℕ) → new t r ≡ old t r
  elsewhere t other r = rw (at_last t r, at_first t r, by_itself t r, ne_eqb term t other) refl

  pub added : ReachesBack (old term) round first → ReachesOn (old term) round last → Joins (old term) (new term) round first last
  added back on = joins (old term) (new term) round first last back on (λ r. rw (at_last term r, at_first term r, by_itself term r, eq-eqb term term refl) refl)

  pub added_runs : ReachesBack (old term) round first → ReachesOn (old term) round last → round < 2 ^ 64 → ((t : ℕ) → AreRuns (old t)) → (t : ℕ)
      → AreRuns (new t)
  added_runs back on small runs t = by_term (cases_eq term t)
    where
      by_term : (term ≡ t) ⊎ (term ≡ t → ⊥) → AreRuns (new t)
      by_term (inl same) = subst (λ (n : ℕ). AreRuns (new n)) same (joined_runs (old term) (new term) round first last (added back on) small (runs term))
      by_term (inr other) = same_runs (old t) (new t) (elsewhere t other) (runs t)

-- One more report: which transactions end at it, and which wait on.
use Rattle.std.specs.Prelude.{◌≡◌, ℕ, zero, suc, ◌+◌, ◌-◌, ◌<◌, ◌≤◌, Bool, true, false, ◌&&◌, not, List, [], ◌∷◌, ◌++◌, length, filter, map, find, count_by, sum_by, slice_get, All, nat_eq, nat_lt, Option, Some, None, is_some, is_none, if◌then◌else◌}
use Rattle.std.specs.Option.{option_or}
use Rattle.std.proofs.Common.{refl, sym, ap, ◌∙◌, arith, inl, inr, cond, subst}
use Rattle.std.proofs.lemmas.Bool.{cases_lt, lt-ltb, le-ltb, ne_eqb, eq-eqb, and_left}
use Rattle.std.proofs.lemmas.List.{length-append, map-append}
use Rattle.std.proofs.lemmas.List.Elements.{All-push, All-weaker}
use Rattle.std.proofs.lemmas.List.Folds.{find-append}
use Rattle.std.proofs.lemmas.List.Sums.{sum_by-cons, sum_by_push}
use Rattle.sd_num.specs.Lists.{below, map_or, at_place, same_number}
use Rattle.sd_num.proofs.Firsts.{find_below_none}
use Rattle.sd_num.proofs.Places.{at_last}
use Rattle.sd_device.specs.msg.Observed.{ReportAt}
use Rattle.sd_replay.specs.wait.Waits.{stamp_of, surely_after, ends_by, end_place, stamp_at, ended_at}
use Rattle.sd_replay.specs.wait.Waiting.{ends_below}
use Rattle.sd_replay.specs.wait.Standing.{transaction, transaction_at, unended}
use Rattle.sd_replay.specs.declared.wait.transactions.Transaction.{Transaction}
use Rattle.sd_replay.proofs.wait.Below.{same_find, filter_more, count_more, found_below}
use Rattle.sd_replay.proofs.wait.Rising.{Rises, rises_push}

-- the lower end of an interval lies past a stamp
pub past_stamp : (stamp clock eps : ℕ) → nat_lt (stamp + eps) clock ≡ nat_lt stamp (clock - eps)
past_stamp stamp clock eps = elim (cases_lt (stamp + eps) clock) [
  | inl less ↦ lt-ltb (stamp + eps) clock less ∙ sym (lt-ltb stamp (clock - eps) (omega arith))
  | inr more ↦ le-ltb (stamp + eps) clock more ∙ sym (le-ltb stamp (clock - eps) (omega arith))
]

-- a place of the list before
pub at_before_more : {X : Type 0} (xs : List X) (y : X) (i : ℕ) → i < length xs → slice_get (xs ++ y ∷ []) i ≡ slice_get xs i
at_before_more [] y i within = absurd (omega arith)
at_before_more (x ∷ xs) y zero within = refl
at_before_more (x ∷ xs) y (suc i) within = at_before_more xs y i (omega arith)

pub length_more : {X : Type 0} (xs : List X) (y : X) → length (xs ++ y ∷ []) ≡ suc (length xs)
length_more xs y = omega (arith, length-append xs (y ∷ []))

-- the place of a transaction is the place of its report
pub place_is : (told : List ReportAt) (i : ℕ) → (transaction_at told i).place ≡ i
place_is told i = by (slice_get told i)
  where
    by : (o : Option ReportAt) → (map_or o (record { device = 0; stamp = 0; place = i; line = 0 }) (transaction i)).place ≡ i
    by None = refl
    by (Some x) = refl

pub stamp_is : (told : List ReportAt) (i : ℕ) → (transaction_at told i).stamp ≡ stamp_at told i
stamp_is told i = by (slice_get told i)
  where
    by : (o : Option ReportAt) → (map_or o (record { device = 0; stamp = 0; place = i; line = 0 }) (transaction i)).stamp ≡ map_or o 0 stamp_of
    by None = refl
    by (Some x) = refl

-- as many have ended as do not wait
pub counted : (told : List ReportAt) (n : ℕ) → count_by (λ i. is_some (end_place told i)) (below n) + length (unended told n) ≡ n
counted told zero = omega arith
counted told (suc n) = by (is_some (end_place told n)) (counted told n) (count_more (λ i. is_some (end_place told i)) n)
  where
    by : (b : Bool) → count_by (λ i. is_some (end_place told i)) (below n) + length (unended told n) ≡ n
        → count_by (λ i. is_some (end_place told i)) (below (suc n)) ≡ count_by (λ i. is_some (end_place told i)) (below n) + (if b then 1 else 0)
        → count_by (λ i. is_some (end_place told i)) (below (suc n)) + length (if not b then transaction_at told n ∷ unended told n else unended told n) ≡ suc n
    by true rest more = omega (arith, rest, more)
    by false rest more = omega (arith, rest, more)

module _ (told : List ReportAt) (x : ReportAt) where
  abbrev pub now : List ReportAt
  now = told ++ x ∷ []

  -- the new report ends the transaction at a place
  abbrev pub ends_now : ℕ → Bool
  ends_now i = at_place told i false (λ earlier. surely_after earlier x)

  pub transaction_before : (i : ℕ) → i < length told → transaction_at now i ≡ transaction_at told i
  transaction_before i within = ap (λ o. map_or o (record { device = 0; stamp = 0; place = i; line = 0 }) (transaction i)) (at_before_more told x i within)

  pub transaction_new : transaction_at now (length told) ≡ transaction (length told) x
  transaction_new = ap (λ o. map_or o (record { device = 0; stamp = 0; place = length told; line = 0 }) (transaction (length told))) (at_last told x)

  pub stamp_before : (i : ℕ) → i < length told → stamp_at now i ≡ stamp_at told i
  stamp_before i within = ap (λ o. map_or o 0 stamp_of) (at_before_more told x i within)

  ends_before : (i j : ℕ) → i < length told → j < length told → ends_by now i j ≡ ends_by told i j
  ends_before i j in_i in_j =
      ap (λ o. map_or o false (λ earlier. at_place now j false (surely_after earlier))) (at_before_more told x i in_i)
      ∙ ap (λ o. map_or (slice_get told i) false (λ earlier. map_or o false (surely_after earlier))) (at_before_more told x j in_j)

  ends_at_new : (i : ℕ) → i < length told → ends_by now i (length told) ≡ ends_now i
  ends_at_new i within =
      ap (λ o. map_or o false (λ earlier. at_place now (length told) false (surely_after earlier))) (at_before_more told x i within)
      ∙ ap (λ o. map_or (slice_get told i) false (λ earlier. map_or o false (surely_after earlier))) (at_last told x)

  -- An earlier transaction ends where it did, or else at the new report if that ends it.
  pub end_before : (i : ℕ) → i < length told → end_place now i ≡ option_or (end_place told i) (if ends_now i then Some (length told) else None)
  end_before i within =
      ap (λ n. find (λ j. nat_lt i j && ends_by now i j) (below n)) (length_more told x)
      ∙ find-append (λ j. nat_lt i j && ends_by now i j) (below (length told)) (length told ∷ [])
      ∙ ap (λ o. option_or o (find (λ j. nat_lt i j && ends_by now i j) (length told ∷ [])))
      (same_find (λ j. nat_lt i j && ends_by now i j) (λ j. nat_lt i j && ends_by told i j) (length told)
      (λ j less. ap (λ b. nat_lt i j && b) (ends_before i j within less)))
      ∙ ap (λ b. option_or (end_place told i) (if b then Some (length told) else None))
      (ap (λ b. b && ends_by now i (length told)) (lt-ltb i (length told) within) ∙ ends_at_new i within)

  -- the new transaction waits
  pub end_new : end_place now (length told) ≡ None
  end_new =
      ap (λ n. find (λ j. nat_lt (length told) j && ends_by now (length told) j) (below n)) (length_more told x)
      ∙ find_below_none (λ j. nat_lt (length told) j && ends_by now (length told) j) (suc (length told))
      (λ j less. and_left (nat_lt (length told) j) (ends_by now (length told) j) (le-ltb (length told) j (omega arith)))

  abbrev pub ends_at_x : Transaction → Bool
  ends_at_x t = ends_below x.device (x.report.clock - x.report.eps) t

  pub ends_is : (i : ℕ) → i < length told → ends_at_x (transaction_at told i) ≡ ends_now i
  ends_is i within = by (slice_get told i) refl
    where
      by : (o : Option ReportAt) → slice_get told i ≡ o
          → ends_at_x (map_or o (record { device = 0; stamp = 0; place = i; line = 0 }) (transaction i)) ≡ map_or o false (λ earlier. surely_after earlier x)
      by None none = absurd (there told i within none)
        where
          there : (xs : List ReportAt) (p : ℕ) → p < length xs → slice_get xs p ≡ None → ⊥
          there [] p less none = omega arith
          there (y ∷ ys) zero less none = cc
          there (y ∷ ys) (suc p) less none = there ys p (omega arith) none
      by (Some earlier) is = ap (λ b. nat_eq earlier.device x.device && b) (sym (past_stamp (stamp_of earlier) x.report.clock x.report.eps))

  -- Those wait on that waited and do not end now.
  unended_before : (n : ℕ) → n ≤ length told → unended now n ≡ filter (λ t. not (ends_at_x t)) (unended told n)
  unended_before zero within = refl
  unended_before (suc n) within =
      ap (λ o. if is_none o then transaction_at now n ∷ unended now n else unended now n) (end_before n (omega arith))
      ∙ ap (λ t. if is_none (option_or (end_place told n) (if ends_now n then Some (length told) else None)) then t ∷ unended now n else unended now n)
      (transaction_before n (omega arith))
      ∙ by (end_place told n) (ends_now n) (unended_before n (omega arith)) (ends_is n (omega arith))
    where
      by : (o : Option ℕ) (b : Bool) → unended now n ≡ filter (λ t. not (ends_at_x t)) (unended told n) → ends_at_x (transaction_at told n) ≡ b
          → (if is_none (option_or o (if b then Some (length told) else None)) then transaction_at told n ∷ unended now n else unended now n)
          ≡ filter (λ t. not (ends_at_x t)) (if is_none o then transaction_at told n ∷ unended told n else unended told n)
      by (Some j) b rest is = rest
      by None true rest is =
          rest ∙ ap (λ b. cond (not b) (transaction_at told n ∷ filter (λ t. not (ends_at_x t)) (unended told n))
          (filter (λ t. not (ends_at_x t)) (unended told n))) (sym is)
      by None false rest is = ap (λ ts. transaction_at told n ∷ ts) rest
          ∙ ap (λ b. cond (not b) (transaction_at told n ∷ filter (λ t. not (ends_at_x t)) (unended told n)) (filter (λ t. not (ends_at_x t)) (unended told n)))
          (sym is)

  pub unended_now : unended now (length now) ≡ transaction (length told) x ∷ filter (λ t. not (ends_at_x t)) (unended told (length told))
  unended_now =
      ap (unended now) (length_more told x)
      ∙ ap (λ o. if is_none o then transaction_at now (length told) ∷ unended now (length told) else unended now (length told)) end_new
      ∙ ap (λ t. t ∷ unended now (length told)) transaction_new ∙ ap (λ ts. transaction (length told) x ∷ ts) (unended_before (length told) (omega arith))

  -- Those end now that waited and are ended by the new report.
  abbrev pub ends_last : ℕ → Bool
  ends_last i = same_number (end_place now i) (length told)

  pub last_is : (i : ℕ) → i < length told → ends_last i ≡ (is_none (end_place told i) && ends_now i)
  last_is i within = ap (λ o. same_number o (length told)) (end_before i within) ∙ by (end_place told i) refl (ends_now i)
    where
      by : (o : Option ℕ) → end_place told i ≡ o → (b : Bool)
          → same_number (option_or o (if b then Some (length told) else None)) (length told) ≡ (is_none o && b)
      by None none true = eq-eqb (length told) (length told) refl
      by None none false = refl
      by (Some j) some b = let less : j < length told = found_below (λ q. nat_lt i q && ends_by told i q) (length told) j some in
          ne_eqb j (length told) (λ same. omega arith)

  pub new_not_last : ends_last (length told) ≡ false
  new_not_last = ap (λ o. same_number o (length told)) end_new

  pub ended_now : ended_at now (length told) ≡ filter ends_last (below (length told))
  ended_now = ap (λ n. filter ends_last (below n)) (length_more told x) ∙ filter_more ends_last (length told)
      ∙ ap (λ b. if b then filter ends_last (below (length told)) ++ length told ∷ [] else filter ends_last (below (length told))) new_not_last

  sums_before : (f : Transaction → ℕ) (n : ℕ) → n ≤ length told
      → sum_by f (map (transaction_at now) (filter ends_last (below n))) ≡ sum_by f (filter ends_at_x (unended told n))
  sums_before f zero within = refl
  sums_before f (suc n) within =
      ap (λ xs. sum_by f (map (transaction_at now) xs)) (filter_more ends_last n)
      ∙ ap (λ b. sum_by f (map (transaction_at now) (if b then filter ends_last (below n) ++ n ∷ [] else filter ends_last (below n))))
      (last_is n (omega arith))
      ∙ by (end_place told n) (ends_now n) (sums_before f n (omega arith)) (ends_is n (omega arith)) (transaction_before n (omega arith))
    where
      with_it : sum_by f (map (transaction_at now) (filter ends_last (below n) ++ n ∷ []))
          ≡ sum_by f (map (transaction_at now) (filter ends_last (below n))) + f (transaction_at now n)
      with_it = ap (sum_by f) (map-append (transaction_at now) (filter ends_last (below n)) (n ∷ []))
          ∙ sum_by_push f (map (transaction_at now) (filter ends_last (below n))) (transaction_at now n)

      by : (o : Option ℕ) (b : Bool) → sum_by f (map (transaction_at now) (filter ends_last (below n))) ≡ sum_by f (filter ends_at_x (unended told n))
          → ends_at_x (transaction_at told n) ≡ b → transaction_at now n ≡ transaction_at told n
          → sum_by f (map (transaction_at now) (if is_none o && b then filter ends_last (below n) ++ n ∷ [] else filter ends_last (below n)))
          ≡ sum_by f (filter ends_at_x (if is_none o then transaction_at told n ∷ unended told n else unended told n))
      by (Some j) b rest is same = rest
      by None false rest is same =
          rest ∙ ap (λ b. sum_by f (cond b (transaction_at told n ∷ filter ends_at_x (unended told n)) (filter ends_at_x (unended told n)))) (sym is)
      by None true rest is same =
          let value : f (transaction_at now n) ≡ f (transaction_at told n) = ap f same in
          let sum : sum_by f (transaction_at told n ∷ filter ends_at_x (unended told n))
          ≡ f (transaction_at told n) + sum_by f (filter ends_at_x (unended told n)) =
          sum_by-cons f (transaction_at told n) (filter ends_at_x (unended told n)) in
          let whole : sum_by f (map (transaction_at now) (filter ends_last (below n) ++ n ∷ []))
          ≡ sum_by f (transaction_at told n ∷ filter ends_at_x (unended told n)) = omega (arith, with_it, rest, value, sum) in
          whole ∙ ap (λ b. sum_by f (cond b (transaction_at told n ∷ filter ends_at_x (unended told n)) (filter ends_at_x (unended told n)))) (sym is)

  pub ended_sums : (f : Transaction → ℕ)
      → sum_by f (map (transaction_at now) (ended_at now (length told))) ≡ sum_by f (filter ends_at_x (unended told (length told)))
  ended_sums f = ap (λ xs. sum_by f (map (transaction_at now) xs)) ended_now ∙ sums_before f (length told) (omega arith)

  -- and in the order of their places they rise
  rises_below : (n : ℕ) → Rises (map (transaction_at now) (filter ends_last (below n)))
      × All (λ (t : Transaction). t.place < n) (map (transaction_at now) (filter ends_last (below n)))
  rises_below zero = (tt, λ k d within. absurd (omega arith))
  rises_below (suc n) =
      subst (λ xs. Rises (map (transaction_at now) xs) × All (λ (t : Transaction). t.place < suc n) (map (transaction_at now) xs))
      (sym (filter_more ends_last n)) (by (ends_last n) (rises_below n))
    where
      by : (b : Bool) → Rises (map (transaction_at now) (filter ends_last (below n)))
          × All (λ (t : Transaction). t.place < n) (map (transaction_at now) (filter ends_last (below n)))
          → Rises (map (transaction_at now) (if b then filter ends_last (below n) ++ n ∷ [] else filter ends_last (below n)))
          × All (λ (t : Transaction). t.place < suc n)
          (map (transaction_at now) (if b then filter ends_last (below n) ++ n ∷ [] else filter ends_last (below n)))
      by false rest = (
        rest.0,
        All-weaker (λ (t : Transaction). t.place < n) (λ (t : Transaction). t.place < suc n) (λ t less. omega arith)
            (map (transaction_at now) (filter ends_last (below n))) rest.1,
      )
      by true rest =
          let ts = map (transaction_at now) (filter ends_last (below n)) in
          let place : (transaction_at now n).place ≡ n = place_is now n in
          subst (λ us. Rises us × All (λ (t : Transaction). t.place < suc n) us) (sym (map-append (transaction_at now) (filter ends_last (below n)) (n ∷ []))) (
            rises_push ts (transaction_at now n) rest.0
                (All-weaker (λ (t : Transaction). t.place < n) (λ (t : Transaction). t.place < (transaction_at now n).place) (λ t less. omega arith) ts rest.1),
            All-push (λ (t : Transaction). t.place < suc n) ts (transaction_at now n)
                (All-weaker (λ (t : Transaction). t.place < n) (λ (t : Transaction). t.place < suc n) (λ t less. omega arith) ts rest.1) (omega arith),
          )

  pub ended_rises : Rises (map (transaction_at now) (ended_at now (length told)))
  ended_rises = subst (λ xs. Rises (map (transaction_at now) xs)) (sym ended_now) (rises_below (length told)).0

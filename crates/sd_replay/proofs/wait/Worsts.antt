-- Of all that ended the first with the greatest stamp: when more end, and which disorder it shows.
use Rattle.std.specs.Prelude.{◌≡◌, ℕ, suc, ◌<◌, ◌≤◌, Bool, true, false, ◌&&◌, ◌||◌, List, [], ◌∷◌, length, filter, map, find, nat_eq, nat_le, nat_lt, Option, Some, None, is_some, is_none, IfSome, option_map, if◌then◌else◌, ◌⊎◌}
use Rattle.std.specs.List.{list_any}
use Rattle.std.specs.Option.{option_or}
use Rattle.std.proofs.Common.{refl, sym, ap, ◌∙◌, arith, inl, inr, subst}
use Rattle.std.proofs.lemmas.Bool.{cases_lt, lt-ltb, le-ltb, le-leb, lt-leb, leb-true, leb-false, ltb-true, ltb-false, eqb-true, eq-eqb, and_parts, and_from, or_cases, or_parts, or_left, or_right, and_left, and_right, both_ways, false_from_ne_true}
use Rattle.std.proofs.lemmas.Option.{same_Some}
use Rattle.std.proofs.lemmas.List.Folds.{list_any-append}
use Rattle.sd_num.specs.Lists.{below, has, map_or, greatest, same_number}
use Rattle.sd_num.proofs.Places.{kept_parts, kept_from, has_below, below_has}
use Rattle.sd_num.proofs.Shared.{any_below_at}
use Rattle.sd_num.proofs.Firsts.{find_passes, NonePasses}
use Rattle.sd_device.specs.msg.Observed.{ReportAt}
use Rattle.sd_replay.specs.wait.Waits.{ends_by, end_place, stamp_at, ended_at, has_ended_by, is_disorder, worst_disorder, has_disorder}
use Rattle.sd_replay.specs.wait.Waiting.{worse, worst_among, disordered_by}
use Rattle.sd_replay.specs.wait.Standing.{transaction_at, IsWorst, HasWorst}
use Rattle.sd_replay.specs.declared.wait.transactions.Transaction.{Transaction}
use Rattle.sd_replay.proofs.wait.Below.{Agree, filter_none, any_none, same_any, found_below, first_most}
use Rattle.sd_replay.proofs.wait.Ends.{now, ends_now, ends_last, last_is, place_is, stamp_is, length_more, transaction_before, stamp_before, end_before, end_new, ended_now}

-- a has a greater stamp than b, or the same and did not begin after it
pub record IsAsBad (a b : Transaction) : Type 0 where
  pub stamps : b.stamp ≤ a.stamp
  pub places : b.stamp ≡ a.stamp → a.place ≤ b.place

bad_itself : (a : Transaction) → IsAsBad a a
bad_itself a = record { stamps = omega arith; places = λ same. omega arith }

bad_on : (a b c : Transaction) → IsAsBad a b → IsAsBad b c → IsAsBad a c
bad_on a b c one two = record {
  stamps = omega (arith, one.stamps, two.stamps);
  places = λ same. let first : b.stamp ≡ a.stamp = omega (arith, one.stamps, two.stamps) in
      let second : c.stamp ≡ b.stamp = omega (arith, one.stamps, two.stamps) in omega (arith, one.places first, two.places second);
}

-- the worse of two is one of them, and as bad as both
worse_parts : (w t : Transaction) → ((worse (Some w) t ≡ w) ⊎ (worse (Some w) t ≡ t)) × IsAsBad (worse (Some w) t) w × IsAsBad (worse (Some w) t) t
worse_parts w t = by (nat_lt t.stamp w.stamp || (nat_eq w.stamp t.stamp && nat_lt w.place t.place)) refl
  where
    by : (b : Bool) → (nat_lt t.stamp w.stamp || (nat_eq w.stamp t.stamp && nat_lt w.place t.place)) ≡ b
        → (((if b then w else t) ≡ w) ⊎ ((if b then w else t) ≡ t)) × IsAsBad (if b then w else t) w × IsAsBad (if b then w else t) t
    by true is = (
      inl refl,
      bad_itself w,
      elim (or_cases (nat_lt t.stamp w.stamp) (nat_eq w.stamp t.stamp && nat_lt w.place t.place) is) [
        | inl less ↦ (let lower : t.stamp < w.stamp = ltb-true t.stamp w.stamp less in record { stamps = omega arith; places = λ same. absurd (omega arith) })
        | inr equal ↦ (let parts = and_parts (nat_eq w.stamp t.stamp) (nat_lt w.place t.place) equal in
            let same : w.stamp ≡ t.stamp = eqb-true w.stamp t.stamp parts.0 in
            let before : w.place < t.place = ltb-true w.place t.place parts.1 in
            record { stamps = omega arith; places = λ again. omega arith })
      ],
    )
    by false is =
        let parts = or_parts (nat_lt t.stamp w.stamp) (nat_eq w.stamp t.stamp && nat_lt w.place t.place) is in (
          inr refl,
          record {
            stamps = ltb-false t.stamp w.stamp parts.0;
            places = λ same. elim (cases_lt w.place t.place) [
              | inr later ↦ later
              | inl before ↦ absurd
                  (both_ways (nat_eq w.stamp t.stamp && nat_lt w.place t.place) parts.1
                  (and_from (nat_eq w.stamp t.stamp) (nat_lt w.place t.place) (eq-eqb w.stamp t.stamp same) (lt-ltb w.place t.place before)))
            ];
          },
          bad_itself t,
        )

-- one of a list
abbrev pub Among : Transaction → List Transaction → Type 0
Among t [] = ⊥
Among t (u ∷ us) = (t ≡ u) ⊎ Among t us

among_map : (f : ℕ → Transaction) (xs : List ℕ) (t : Transaction) → Among t (map f xs) → (i : ℕ) × (has xs i ≡ true) × (t ≡ f i)
among_map f [] t among = absurd among
among_map f (x ∷ xs) t (inl same) = (x, or_left (nat_eq x x) (has xs x) (eq-eqb x x refl), same)
among_map f (x ∷ xs) t (inr later) = let rest = among_map f xs t later in (rest.0, or_right (nat_eq rest.0 x) (has xs rest.0) rest.1, rest.2)

map_among : (f : ℕ → Transaction) (xs : List ℕ) (i : ℕ) → has xs i ≡ true → Among (f i) (map f xs)
map_among f [] i there = cc
map_among f (x ∷ xs) i there = elim (or_cases (nat_eq i x) (has xs i) there) [
  | inl here ↦ inl (ap f (eqb-true i x here))
  | inr later ↦ inr (map_among f xs i later)
]

-- The worst among a first and more is as bad as each of them.
pub record IsTop (worst : Option Transaction) (t : Transaction) : Type 0 where
  pub top : Transaction
  pub is : worst ≡ Some top
  pub bad : IsAsBad top t

worst_keeps : (w : Transaction) (ts : List Transaction) → IsTop (worst_among (Some w) ts) w
worst_keeps w [] = record { top = w; is = refl; bad = bad_itself w }
worst_keeps w (t ∷ ts) =
    let rest = worst_keeps (worse (Some w) t) ts in
    record { top = rest.top; is = rest.is; bad = bad_on rest.top (worse (Some w) t) w rest.bad (worse_parts w t).1 }

worse_as_bad : (o : Option Transaction) (t : Transaction) → IsAsBad (worse o t) t
worse_as_bad None t = bad_itself t
worse_as_bad (Some w) t = (worse_parts w t).2

worst_over : (o : Option Transaction) (ts : List Transaction) (t : Transaction) → Among t ts → IsTop (worst_among o ts) t
worst_over o [] t among = absurd among
worst_over o (u ∷ us) t (inr later) = worst_over (Some (worse o u)) us t later
worst_over o (u ∷ us) t (inl same) =
    let rest = worst_keeps (worse o u) us in
    record { top = rest.top; is = rest.is; bad = bad_on rest.top (worse o u) t rest.bad (subst (λ z. IsAsBad (worse o u) z) (sym same) (worse_as_bad o u)) }

-- and one of them
worse_of : (P : Transaction → Type 0) (o : Option Transaction) (t : Transaction) → IfSome o P → P t → P (worse o t)
worse_of P None t first it = it
worse_of P (Some w) t first it = elim (worse_parts w t).0 [ inl old ↦ subst P (sym old) first | inr new ↦ subst P (sym new) it ]

worst_from : (P : Transaction → Type 0) (o : Option Transaction) (ts : List Transaction) → IfSome o P → ((t : Transaction) → Among t ts → P t)
    → IfSome (worst_among o ts) P
worst_from P o [] first all = first
worst_from P o (u ∷ us) first all = worst_from P (Some (worse o u)) us (worse_of P o u first (all u (inl refl))) (λ t later. all t (inr later))

is_there : (o : Option ℕ) → is_some o ≡ true → (j : ℕ) × (o ≡ Some j)
is_there None some = cc
is_there (Some j) some = (j, refl)

-- A transaction that ended.
record HasEnded (told : List ReportAt) (t : Transaction) : Type 0 where
  pub within : t.place < length told
  pub ended : is_some (end_place told t.place) ≡ true
  pub is : t ≡ transaction_at told t.place

module _ (told : List ReportAt) (x : ReportAt) where
  abbrev next : List ReportAt
  next = now told x

  abbrev ended_ones : List Transaction
  ended_ones = map (transaction_at next) (ended_at next (length told))

  still_ended : (i : ℕ) → i < length told → is_some (end_place told i) ≡ true → is_some (end_place next i) ≡ true
  still_ended i within ended =
      let end = is_there (end_place told i) ended in
      ap is_some (end_before told x i within) ∙ ap (λ o. is_some (option_or o (if ends_now told x i then Some (length told) else None))) end.1

  -- what has ended had ended before, or ends at the new report
  ended_cases : (i : ℕ) → i < length next → is_some (end_place next i) ≡ true
      → (i < length told) × ((is_some (end_place told i) ≡ true) ⊎ (ends_last told x i ≡ true))
  ended_cases i within ended = elim (cases_lt i (length told)) [
    | inl before ↦ (before, by (end_place told i) (ends_now told x i) (sym (ap is_some (end_before told x i before)) ∙ ended) (last_is told x i before))
    | inr new ↦
        let same : length told ≡ i = omega (arith, length_more told x) in
        absurd (both_ways (is_some (end_place next i)) (ap (λ k. is_some (end_place next k)) (sym same) ∙ ap is_some (end_new told x)) ended)
  ]
    where
      by : (o : Option ℕ) (b : Bool) → is_some (option_or o (if b then Some (length told) else None)) ≡ true → ends_last told x i ≡ (is_none o && b)
          → (is_some o ≡ true) ⊎ (ends_last told x i ≡ true)
      by (Some j) b some last = inl refl
      by None true some last = inr last
      by None false some last = cc

  last_among : (i : ℕ) → i < length told → ends_last told x i ≡ true → Among (transaction_at next i) ended_ones
  last_among i within last =
      subst (λ xs. Among (transaction_at next i) (map (transaction_at next) xs)) (sym (ended_now told x))
      (map_among (transaction_at next) (filter (ends_last told x) (below (length told))) i
      (kept_from (ends_last told x) (below (length told)) i last (has_below (length told) i within)))

  among_last : (t : Transaction) → Among t ended_ones → HasEnded next t
  among_last t among =
      let there = among_map (transaction_at next) (filter (ends_last told x) (below (length told))) t
      (subst (λ xs. Among t (map (transaction_at next) xs)) (ended_now told x) among) in
      let parts = kept_parts (ends_last told x) (below (length told)) there.0 there.1 in
      let place : t.place ≡ there.0 = ap (λ (u : Transaction). u.place) there.2 ∙ place_is next there.0 in
      let less : there.0 < length told = below_has (length told) there.0 parts.1 in
      record {
        within = omega (arith, length_more told x, place, less);
        ended = ap (λ i. is_some (end_place next i)) place ∙ some_when (end_place next there.0) parts.0;
        is = there.2 ∙ ap (transaction_at next) (sym place);
      }
    where
      some_when : (o : Option ℕ) → same_number o (length told) ≡ true → is_some o ≡ true
      some_when None same = cc
      some_when (Some j) same = refl

  old_ended : (w : Transaction) → IsWorst told w → HasEnded next w
  old_ended w is = record {
    within = omega (arith, length_more told x, is.within);
    ended = still_ended w.place is.within is.ended;
    is = is.is ∙ sym (transaction_before told x w.place is.within);
  }

  old_bad : (w : Transaction) → IsWorst told w → (i : ℕ) → i < length told → is_some (end_place told i) ≡ true → IsAsBad w (transaction_at next i)
  old_bad w is i within ended =
      subst (λ t. IsAsBad w t) (sym (transaction_before told x i within))
      (record {
        stamps = let most : stamp_at told i ≤ w.stamp = is.greatest i within ended in omega (arith, stamp_is told i);
        places = λ same. let first : w.place ≤ i = is.first i within ended (sym (stamp_is told i) ∙ same) in omega (arith, place_is told i);
      })

  top_of : (worst : Option Transaction) → HasWorst told worst → (i : ℕ) → i < length next → is_some (end_place next i) ≡ true
      → IsTop (worst_among worst ended_ones) (transaction_at next i)
  top_of worst has i within ended = let found = ended_cases i within ended in by worst has found.0 found.1
    where
      by : (o : Option Transaction) → HasWorst told o → i < length told → (is_some (end_place told i) ≡ true) ⊎ (ends_last told x i ≡ true)
          → IsTop (worst_among o ended_ones) (transaction_at next i)
      by o has within (inr last) = worst_over o ended_ones (transaction_at next i) (last_among i within last)
      by None has within (inl old) = absurd (both_ways (is_some (end_place told i)) (ap is_some (has i within)) old)
      by (Some w) has within (inl old) =
          let kept = worst_keeps w ended_ones in
          record { top = kept.top; is = kept.is; bad = bad_on kept.top w (transaction_at next i) kept.bad (old_bad w has i within old) }

  all_ended : (worst : Option Transaction) → HasWorst told worst → IfSome (worst_among worst ended_ones) (λ t. HasEnded next t)
  all_ended worst has = worst_from (λ t. HasEnded next t) worst ended_ones (first worst has) among_last
    where
      first : (o : Option Transaction) → HasWorst told o → IfSome o (λ t. HasEnded next t)
      first None has = tt
      first (Some w) has = old_ended w has

  -- the first with the greatest stamp, once more have ended
  pub next_worst : (worst : Option Transaction) → HasWorst told worst → HasWorst next (worst_among worst ended_ones)
  next_worst worst has = by (worst_among worst ended_ones) refl (all_ended worst has)
    where
      by : (o : Option Transaction) → worst_among worst ended_ones ≡ o → IfSome o (λ t. HasEnded next t) → HasWorst next o
      by None is ended = λ i within. none_ended i within (end_place next i) refl
        where
          none_ended : (i : ℕ) → i < length next → (o : Option ℕ) → end_place next i ≡ o → end_place next i ≡ None
          none_ended i within None end = end
          none_ended i within (Some j) end =
              let top = top_of worst has i within (ap is_some end) in
              absurd (none_top top.top (sym is ∙ top.is))
            where
              none_top : (t : Transaction) → None ≡ Some t → ⊥
              none_top t same = cc
      by (Some w) is ended =
          let top : (i : ℕ) → i < length next → is_some (end_place next i) ≡ true
          → IsAsBad w (transaction_at next i) = λ i within has_ended. as_bad i (top_of worst has i within has_ended) in
          record {
            within = ended.within;
            ended = ended.ended;
            is = ended.is;
            greatest = λ i within has_ended. let bad = top i within has_ended in omega (arith, bad.stamps, stamp_is next i);
            first = λ i within has_ended same. let bad = top i within has_ended in omega (arith, bad.places (stamp_is next i ∙ same), place_is next i);
          }
        where
          as_bad : (i : ℕ) → IsTop (worst_among worst ended_ones) (transaction_at next i) → IsAsBad w (transaction_at next i)
          as_bad i top = subst (λ t. IsAsBad t (transaction_at next i)) (same_Some top.top w (sym top.is ∙ is)) top.bad

-- What the last of some reports shows.
module _ (told : List ReportAt) (k : ℕ) (last : length told ≡ suc k) where
  abbrev shows : ℕ → Bool
  shows i = is_disorder told i k

  shows_parts : (i : ℕ) → shows i ≡ true → (is_some (end_place told i) ≡ true) × (stamp_at told k ≤ stamp_at told i)
  shows_parts i is =
      let outer = and_parts (has_ended_by told i k && nat_lt i k) (nat_le (stamp_at told k) (stamp_at told i)) is in
      let inner = and_parts (has_ended_by told i k) (nat_lt i k) outer.0 in
      (by (end_place told i) inner.0, leb-true (stamp_at told k) (stamp_at told i) outer.1)
    where
      by : (o : Option ℕ) → map_or o false (λ j. nat_le j k) ≡ true → is_some o ≡ true
      by None is = cc
      by (Some j) is = refl

  shows_from : (i : ℕ) → is_some (end_place told i) ≡ true → stamp_at told k ≤ stamp_at told i → shows i ≡ true
  shows_from i ended more =
      let end = is_there (end_place told i) ended in
      let within : end.0 < length told = found_below (λ j. nat_lt i j && ends_by told i j) (length told) end.0 end.1 in
      let behind : nat_lt i end.0 ≡ true =
      (and_parts (nat_lt i end.0) (ends_by told i end.0) (find_passes (λ j. nat_lt i j && ends_by told i j) (below (length told)) end.0 end.1)).0 in
      let order : i < end.0 = ltb-true i end.0 behind in
      and_from (has_ended_by told i k && nat_lt i k) (nat_le (stamp_at told k) (stamp_at told i))
      (and_from (has_ended_by told i k) (nat_lt i k) (ap (λ o. map_or o false (λ j. nat_le j k)) end.1 ∙ le-leb end.0 k (omega arith))
      (lt-ltb i k (omega arith)))
      (le-leb (stamp_at told k) (stamp_at told i) more)

  -- the disorder that it shows, by its place
  abbrev Found : Option Transaction → Type 0
  Found o = (worst_disorder told k ≡ option_map (λ t. t.place) o) × (has_disorder told k ≡ is_some o)

  found_none : NonePasses shows (length told) → Found None
  found_none none = (
    ap (λ xs. find (λ i. nat_eq (stamp_at told i) (greatest (map (stamp_at told) xs))) xs) (filter_none shows (length told) none),
    any_none shows
        (length told) none,
  )

  found_worst : (w : Transaction) → IsWorst told w → stamp_at told k ≤ w.stamp → Found (Some w)
  found_worst w is more =
      let stamp : stamp_at told w.place ≡ w.stamp = sym (stamp_is told w.place) ∙ sym (ap (λ (t : Transaction). t.stamp) is.is) in
      let here : shows w.place ≡ true = shows_from w.place is.ended (omega arith) in (
        first_most (stamp_at told) shows (length told) w.place is.within here
            (λ j less it. let most : stamp_at told j ≤ w.stamp = is.greatest j less (shows_parts j it).0 in omega arith)
            (λ j less it same. is.first j less (shows_parts j it).0 (same ∙ stamp)) nat_eq eqb-true eq-eqb,
        any_below_at shows (length told) w.place is.within here,
      )

  pub found : (worst : Option Transaction) → HasWorst told worst → Found (disordered_by worst (stamp_at told k))
  found None none =
      found_none (λ i within. false_from_ne_true (shows i) (λ it. both_ways (is_some (end_place told i)) (ap is_some (none i within)) (shows_parts i it).0))
  found (Some w) is = by (nat_le (stamp_at told k) w.stamp) refl
    where
      by : (b : Bool) → nat_le (stamp_at told k) w.stamp ≡ b → Found (if b then Some w else None)
      by true more = found_worst w is (leb-true (stamp_at told k) w.stamp more)
      by false less = found_none (λ i within. false_from_ne_true (shows i) (λ it.
          let parts = shows_parts i it in
          let most : stamp_at told i ≤ w.stamp = is.greatest i within parts.0 in
          let above : w.stamp < stamp_at told k = leb-false (stamp_at told k) w.stamp less in omega (arith, parts.1)))

  -- and as a transaction
  pub shown_disorder : (worst : Option Transaction) → HasWorst told worst
      → option_map (transaction_at told) (worst_disorder told k) ≡ disordered_by worst (stamp_at told k)
  shown_disorder worst has = ap (option_map (transaction_at told)) (found worst has).0 ∙ by worst has
    where
      by : (o : Option Transaction) → HasWorst told o
          → option_map (transaction_at told) (option_map (λ t. t.place) (disordered_by o (stamp_at told k))) ≡ disordered_by o (stamp_at told k)
      by None has = refl
      by (Some w) has = by_test (nat_le (stamp_at told k) w.stamp)
        where
          by_test : (b : Bool) → option_map (transaction_at told) (option_map (λ t. t.place) (if b then Some w else None)) ≡ (if b then Some w else None)
          by_test true = ap Some (sym has.is)
          by_test false = refl

-- Earlier reports show what they showed.
module _ (told : List ReportAt) (x : ReportAt) (k : ℕ) (earlier : k < length told) where
  same_shown : Agree (λ i. is_disorder (now told x) i k) (λ i. is_disorder told i k) (length told)
  same_shown i within =
      ap (λ b. b && nat_lt i k && nat_le (stamp_at (now told x) k) (stamp_at (now told x) i)) ended
      ∙ ap (λ s. has_ended_by told i k && nat_lt i k && nat_le s (stamp_at (now told x) i)) (stamp_before told x k earlier)
      ∙ ap (λ s. has_ended_by told i k && nat_lt i k && nat_le (stamp_at told k) s) (stamp_before told x i within)
    where
      ended : has_ended_by (now told x) i k ≡ has_ended_by told i k
      ended = ap (λ o. map_or o false (λ j. nat_le j k)) (end_before told x i within) ∙ by (end_place told i) (ends_now told x i)
        where
          by : (o : Option ℕ) (b : Bool)
              → map_or (option_or o (if b then Some (length told) else None)) false (λ j. nat_le j k) ≡ map_or o false (λ j. nat_le j k)
          by (Some j) b = refl
          by None true = lt-leb (length told) k earlier
          by None false = refl

  pub same_disorder : has_disorder (now told x) k ≡ has_disorder told k
  same_disorder =
      ap (λ n. list_any (λ i. is_disorder (now told x) i k) (below n)) (length_more told x)
      ∙ list_any-append (λ i. is_disorder (now told x) i k) (below (length told)) (length told ∷ [])
      ∙ ap (λ b. list_any (λ i. is_disorder (now told x) i k) (below (length told)) || (b || false)) later
      ∙ or_false (list_any (λ i. is_disorder (now told x) i k) (below (length told)))
      ∙ same_any (λ i. is_disorder (now told x) i k) (λ i. is_disorder told i k) (length told) same_shown
    where
      later : is_disorder (now told x) (length told) k ≡ false
      later =
          and_left (has_ended_by (now told x) (length told) k && nat_lt (length told) k)
          (nat_le (stamp_at (now told x) k) (stamp_at (now told x) (length told)))
          (and_right (has_ended_by (now told x) (length told) k) (nat_lt (length told) k) (le-ltb (length told) k (omega arith)))

      or_false : (b : Bool) → (b || (false || false)) ≡ b
      or_false true = refl
      or_false false = refl

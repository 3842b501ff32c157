-- Those that wait: the order, what ends, one more, and one less.
use Rattle.std.specs.Prelude.{◌≡◌, ℕ, ◌+◌, ◌<◌, ◌≤◌, Bool, true, false, ◌&&◌, not, List, [], ◌∷◌, length, filter, find, nat_eq, nat_lt, sum_by, Option, None, Some}
use Rattle.std.specs.declared.ops.Bound.TheVariants.{Included, Excluded}
use Rattle.std.specs.BTreeMap.{is_at}
use Rattle.std.specs.BTreeMap.Range.{range_contains}
use Rattle.std.specs.BTreeSet.{insert_key}
use Rattle.std.specs.Borrow.{Bor}
use Rattle.std.specs.List.{list_any, slice_get}
use Rattle.std.specs.declared.cmp.Ordering.{Ordering}
use Rattle.std.specs.declared.cmp.Ordering.TheVariants.{Less, Equal, Greater}
use Rattle.std.specs.Ordering.{MatchOrdering, is_eq, is_le, match_ordering, nat_cmp, ordering_then}
use Rattle.std.specs.Map.Iter.{TakesFirst, deref}
use Rattle.std.specs.Option.{option_copied}
use Rattle.std.specs.Set.{remove_key}
use Rattle.std.proofs.Common.{refl, sym, ap, ◌∙◌, arith, cond, subst}
use Rattle.std.proofs.lemmas.Bool.{both_ways, eq-eqb, le-ltb, lt-ltb, ne_eqb, or_left, or_right}
use Rattle.std.proofs.lemmas.Cmp.{nat_cmp_total, ranked, tied_itself}
use Rattle.std.proofs.lemmas.List.Elements.{All-head, All-tail}
use Rattle.std.proofs.lemmas.List.Sums.{sum_by-cons}
use Rattle.sd_replay.specs.wait.Waiting.{AllBelow, HaveSameSums, ends_below, least, order_of, pending_count, with_pending}
use Rattle.sd_replay.specs.declared.wait.transactions.Transaction.{Transaction}
use Rattle.sd_replay.proofs.wait.Rising.{made}

-- equal in both orders
then_equal : (o p : Ordering) → ordering_then o p ≡ Equal → (o ≡ Equal) × (p ≡ Equal)
then_equal Less p is = cc
then_equal Equal p is = (refl, is)
then_equal Greater p is = cc

some_is : (t u : Transaction) → Some t ≡ Some u → t ≡ u
some_is t u is = cc

same_number : (x y : ℕ) → nat_cmp x y ≡ Equal → x ≡ y
same_number x y is = ranked x y Equal (sym is)

-- the order tells all transactions apart
pub order_exact : (t u : Transaction) → order_of t u ≡ Equal → t ≡ u
order_exact t u is =
    let first = then_equal (nat_cmp t.device u.device) _ is in
    let second = then_equal (nat_cmp t.stamp u.stamp) _ first.1 in
    let third = then_equal (nat_cmp t.place u.place) (nat_cmp t.line u.line) second.1 in
    ap (λ n. made n t.stamp t.place t.line) (same_number t.device u.device first.0)
    ∙ ap (λ n. made u.device n t.place t.line) (same_number t.stamp u.stamp second.0)
    ∙ ap (λ n. made u.device u.stamp n t.line) (same_number t.place u.place third.0)
    ∙ ap (λ n. made u.device u.stamp u.place n) (same_number t.line u.line third.1)

at_exact : (t u : Transaction) → is_at (order_of t) u ≡ true → t ≡ u
at_exact t u is = order_exact t u (by (order_of t u) is)
  where
    by : (o : Ordering) → is_eq o ≡ true → o ≡ Equal
    by Less is = cc
    by Equal is = refl
    by Greater is = cc

same_cmp : (n : ℕ) → nat_cmp n n ≡ Equal
same_cmp n = tied_itself nat_cmp_total n

at_itself : (t : Transaction) → is_at (order_of t) t ≡ true
at_itself t =
    ap (λ o. is_eq (ordering_then o (ordering_then (nat_cmp t.stamp t.stamp) (ordering_then (nat_cmp t.place t.place) (nat_cmp t.line t.line)))))
    (same_cmp t.device)
    ∙ ap (λ o. is_eq (ordering_then o (ordering_then (nat_cmp t.place t.place) (nat_cmp t.line t.line)))) (same_cmp t.stamp)
    ∙ ap (λ o. is_eq (ordering_then o (nat_cmp t.line t.line))) (same_cmp t.place) ∙ ap is_eq (same_cmp t.line)

-- Those that end stand together.
zero_le : (n : ℕ) (o : Ordering) → is_le o ≡ true → is_le (ordering_then (nat_cmp 0 n) o) ≡ true
zero_le n o is = by (nat_cmp 0 n) (ranked 0 n (nat_cmp 0 n) refl)
  where
    by : (p : Ordering) → MatchOrdering p (0 < n) (0 ≡ n) (n < 0) → is_le (ordering_then p o) ≡ true
    by Less less = refl
    by Equal same = is
    by Greater more = absurd (omega arith)

-- how the order goes on after the stamps of a bound
abbrev after : Transaction → Ordering
after t = ordering_then (nat_cmp 0 t.place) (nat_cmp 0 t.line)

after_le : (t : Transaction) → is_le (after t) ≡ true
after_le t = zero_le t.place (nat_cmp 0 t.line) (ap is_le (sym (then_none (nat_cmp 0 t.line))) ∙ zero_le t.line Equal refl)
  where
    then_none : (o : Ordering) → ordering_then o Equal ≡ o
    then_none Less = refl
    then_none Equal = refl
    then_none Greater = refl

-- and between them are those that end
pub between : (device low : ℕ) (t : Transaction)
    → range_contains order_of (Included (least device 0)) (Excluded (least device low)) t ≡ ends_below device low t
between device low t = by (nat_cmp device t.device) (ranked device t.device (nat_cmp device t.device) refl)
  where
    stamps : (o : Ordering) → MatchOrdering o (low < t.stamp) (low ≡ t.stamp) (t.stamp < low) → not (is_le (ordering_then o (after t))) ≡ nat_lt t.stamp low
    stamps Less less = sym (le-ltb t.stamp low (omega arith))
    stamps Equal same = ap not (after_le t) ∙ sym (le-ltb t.stamp low (omega arith))
    stamps Greater more = sym (lt-ltb t.stamp low more)

    by : (o : Ordering) → MatchOrdering o (device < t.device) (device ≡ t.device) (t.device < device)
        → (is_le (ordering_then o (ordering_then (nat_cmp 0 t.stamp) (after t))) && not (is_le (ordering_then o (ordering_then (nat_cmp low t.stamp) (after t)))))
        ≡ (nat_eq t.device device && nat_lt t.stamp low)
    by Less less = sym (ap (λ b. b && nat_lt t.stamp low) (ne_eqb t.device device (λ same. omega arith)))
    by Equal same =
        ap (λ b. b && not (is_le (ordering_then (nat_cmp low t.stamp) (after t)))) (zero_le t.stamp (after t) (after_le t))
        ∙ stamps (nat_cmp low t.stamp) (ranked low t.stamp (nat_cmp low t.stamp) refl)
        ∙ sym (ap (λ b. b && nat_lt t.stamp low) (eq-eqb t.device device (sym same)))
    by Greater more = sym (ap (λ b. b && nat_lt t.stamp low) (ne_eqb t.device device (λ same. omega arith)))

-- the first of these is found by the test
abbrev those : (device low : ℕ) → Transaction → Bool
those device low = range_contains order_of (Included (least device 0)) (Excluded (least device low))

pub first_between : (device low : ℕ) (ts : List Transaction)
    → slice_get (filter (those device low) ts) 0 ≡ find (ends_below device low) ts
first_between device low [] = refl
first_between device low (t ∷ ts) =
    ap (λ b. slice_get (cond b (t ∷ filter (those device low) ts) (filter (those device low) ts)) 0) (between device low t)
    ∙ by (ends_below device low t) (first_between device low ts)
  where
    by : (b : Bool) → slice_get (filter (those device low) ts) 0 ≡ find (ends_below device low) ts
        → slice_get (cond b (t ∷ filter (those device low) ts) (filter (those device low) ts)) 0 ≡ cond b (Some t) (find (ends_below device low) ts)
    by true rest = refl
    by false rest = rest

-- what an iterator shows first
pub first_shown : (before after : List Transaction) (shown : Option (Bor Transaction)) → TakesFirst deref before shown after
    → option_copied shown ≡ slice_get before 0
first_shown before after None takes = sym (ap (λ ts. slice_get ts 0) takes.0)
first_shown before after (Some t) takes = sym (ap (λ ts. slice_get ts 0) takes)

-- one that is taken out: it was found by a test
pub record Removed (q : Transaction → Bool) (t : Transaction) (ts rest : List Transaction) : Type 0 where
  pub those : filter q ts ≡ t ∷ filter q rest
  pub others : filter (λ u. not (q u)) rest ≡ filter (λ u. not (q u)) ts
  pub there : list_any (is_at (order_of t)) ts ≡ true

found_passes : (q : Transaction → Bool) (t : Transaction) (ts : List Transaction) → find q ts ≡ Some t → q t ≡ true
found_passes q t [] found = cc
found_passes q t (u ∷ us) found = by (q u) refl found (found_passes q t us)
  where
    by : (b : Bool) → q u ≡ b → cond b (Some u) (find q us) ≡ Some t → (find q us ≡ Some t → q t ≡ true) → q t ≡ true
    by true passes is later = let same : u ≡ t = some_is u t is in subst (λ z. q z ≡ true) same passes
    by false passes is later = later is

pub removed : (q : Transaction → Bool) (t : Transaction) (ts : List Transaction) → find q ts ≡ Some t
    → Removed q t ts (remove_key (is_at (order_of t)) ts)
removed q t [] found = cc
removed q t (u ∷ us) found = by (q u) (is_at (order_of t) u) refl refl found (removed q t us)
  where
    by : (passes equal : Bool) → q u ≡ passes → is_at (order_of t) u ≡ equal → cond passes (Some u) (find q us) ≡ Some t
        → (find q us ≡ Some t → Removed q t us (remove_key (is_at (order_of t)) us))
        → Removed q t (u ∷ us) (cond equal us (u ∷ remove_key (is_at (order_of t)) us))
    by true true passes equal is later = record {
      those = ap (λ b. cond b (u ∷ filter q us) (filter q us)) passes ∙ ap (λ z. z ∷ filter q us) (some_is u t is);
      others = sym (ap (λ b. cond (not b) (u ∷ filter (λ z. not (q z)) us) (filter (λ z. not (q z)) us)) passes);
      there = or_left (is_at (order_of t) u) (list_any (is_at (order_of t)) us) equal;
    }
    by true false passes equal is later = absurd
        (both_ways (is_at (order_of t) t) (subst (λ z. is_at (order_of t) z ≡ false) (some_is u t is) equal) (at_itself t))
    by false true passes equal is later = absurd
        (both_ways (q u) passes (subst (λ z. q z ≡ true) (at_exact t u equal) (found_passes q t us is)))
    by false false passes equal is later =
        let rest = later is in
        record {
          those = ap (λ b. cond b (u ∷ filter q us) (filter q us)) passes ∙ rest.those
              ∙ sym (ap (λ b. t ∷ cond b (u ∷ filter q (remove_key (is_at (order_of t)) us)) (filter q (remove_key (is_at (order_of t)) us))) passes);
          others = ap
              (λ b. cond (not b) (u ∷ filter (λ z. not (q z)) (remove_key (is_at (order_of t)) us)) (filter (λ z. not (q z)) (remove_key (is_at (order_of t)) us)))
              passes
              ∙ ap (λ zs. u ∷ zs) rest.others ∙ sym (ap (λ b. cond (not b) (u ∷ filter (λ z. not (q z)) us) (filter (λ z. not (q z)) us)) passes);
          there = or_right (is_at (order_of t) u) (list_any (is_at (order_of t)) us) rest.there;
        }

-- where none is found, all the others are all
pub none_found : (q : Transaction → Bool) (ts : List Transaction) → find q ts ≡ None → (filter q ts ≡ []) × (filter (λ t. not (q t)) ts ≡ ts)
none_found q [] none = (refl, refl)
none_found q (t ∷ ts) none = by (q t) none (none_found q ts)
  where
    by : (b : Bool) → cond b (Some t) (find q ts) ≡ None
        → (find q ts ≡ None → (filter q ts ≡ []) × (filter (λ u. not (q u)) ts ≡ ts))
        → (cond b (t ∷ filter q ts) (filter q ts) ≡ []) × (cond (not b) (t ∷ filter (λ u. not (q u)) ts) (filter (λ u. not (q u)) ts) ≡ t ∷ ts)
    by true none later = cc
    by false none later = let rest = later none in (rest.0, ap (λ us. t ∷ us) rest.1)

-- one that began last is put among them
pub inserted : (t : Transaction) (ts : List Transaction) → AllBelow t.place ts → HaveSameSums (t ∷ ts) (insert_key order_of ts t)
inserted t [] below f = refl
inserted t (u ∷ us) below f = by (order_of t u) refl (inserted t us (All-tail (λ (z : Transaction). z.place < t.place) u us below) f)
  where
    by : (o : Ordering) → order_of t u ≡ o → sum_by f (t ∷ us) ≡ sum_by f (insert_key order_of us t)
        → sum_by f (t ∷ u ∷ us) ≡ sum_by f (match_ordering o (t ∷ u ∷ us) (u ∷ us) (u ∷ insert_key order_of us t))
    by Less is rest = refl
    by Equal is rest =
        let less : u.place < t.place = All-head (λ (z : Transaction). z.place < t.place) u us below in
        absurd (omega (arith, less, ap (λ (z : Transaction). z.place) (order_exact t u is)))
    by Greater is rest =
        omega (arith, rest, sum_by-cons f t (u ∷ us), sum_by-cons f u us, sum_by-cons f t us, sum_by-cons f u (insert_key order_of us t))

-- Sums over those that pass a test, and over all.
sum_filter : (f : Transaction → ℕ) (q : Transaction → Bool) (ts : List Transaction) → sum_by f (filter q ts) ≡ sum_by (λ t. cond (q t) (f t) 0) ts
sum_filter f q [] = refl
sum_filter f q (t ∷ ts) = by (q t) (sum_filter f q ts) ∙ sym (sum_by-cons (λ u. cond (q u) (f u) 0) t ts)
  where
    by : (b : Bool) → sum_by f (filter q ts) ≡ sum_by (λ u. cond (q u) (f u) 0) ts
        → sum_by f (cond b (t ∷ filter q ts) (filter q ts)) ≡ cond b (f t) 0 + sum_by (λ u. cond (q u) (f u) 0) ts
    by true rest = omega (arith, rest, sum_by-cons f t (filter q ts))
    by false rest = omega (arith, rest)

pub same_filter : (q : Transaction → Bool) (ts us : List Transaction) → HaveSameSums ts us → HaveSameSums (filter q ts) (filter q us)
same_filter q ts us same f = sum_filter f q ts ∙ same (λ t. cond (q t) (f t) 0) ∙ sym (sum_filter f q us)

ones : (ts : List Transaction) → sum_by (λ t. 1) ts ≡ length ts
ones [] = refl
ones (t ∷ ts) = omega (arith, sum_by-cons (λ (u : Transaction). 1) t ts, ones ts)

pub same_length : (ts us : List Transaction) → HaveSameSums ts us → length ts ≡ length us
same_length ts us same = sym (ones ts) ∙ same (λ t. 1) ∙ ones us

-- Where one may be pending.
pub kept_below : (o : Option Transaction) (ts : List Transaction) (place : ℕ) → AllBelow place (with_pending o ts) → AllBelow place ts
kept_below None ts place all = all
kept_below (Some t) ts place all = All-tail (λ (u : Transaction). u.place < place) t ts all

pub kept_length : (o : Option Transaction) (ts : List Transaction) → length ts ≤ length (with_pending o ts)
kept_length None ts = omega arith
kept_length (Some t) ts = omega arith

pub none_pending : (o : Option Transaction) → pending_count o ≤ 0 → o ≡ None
none_pending None few = refl
none_pending (Some t) few = absurd (omega (arith, few))

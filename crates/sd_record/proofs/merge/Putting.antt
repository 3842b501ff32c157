-- A log goes on with one more line: where that line stands in the merge of all logs.
use Rattle.std.specs.Prelude.{◌≡◌, ◌<◌, ◌≤◌, ℕ, zero, suc, ◌+◌, All, Bool, true, false, List, [], ◌∷◌, ◌++◌, get_or, length, nat_lt, refl, if◌then◌else◌}
use Rattle.std.proofs.Common.{arith, sym, ◌∙◌, ap, set}
use Rattle.std.proofs.lemmas.Bool.{le-ltb, lt-ltb, ltb-false, ltb-true}
use Rattle.std.proofs.lemmas.List.Elements.{All-head, All-nil, All-tail}
use Rattle.sd_record.specs.merge.Merging.{merge}
use Rattle.sd_record.proofs.merge.Merges.{all_merged, by_heads, heads}
use Rattle.sd_record.specs.merge.Lines.{LogLine, line_at, merge_all, precedes}
use Rattle.sd_record.proofs.merge.Order.{before, is_before, is_not_before, not_before}

-- two logs of lines as one
abbrev pub joined : List LogLine → List LogLine → List LogLine
joined first second = merge line_at first second

-- a line is put after those that come before it
abbrev pub put : LogLine → List LogLine → List LogLine
put x [] = x ∷ []
put x (y ∷ ys) = if precedes x.log x.reference y then y ∷ put x ys else x ∷ y ∷ ys

-- One step

pub first_leads : (a : LogLine) (as' : List LogLine) (y : LogLine) (ys : List LogLine) → a.reference ≤ y.reference
    → joined (a ∷ as') (y ∷ ys) ≡ a ∷ joined as' (y ∷ ys)
first_leads a as' y ys low =
    heads line_at a as' y ys ∙ ap (λ (b : Bool). by_heads line_at b a as' y ys) (le-ltb y.reference a.reference low)

pub second_leads : (a : LogLine) (as' : List LogLine) (y : LogLine) (ys : List LogLine) → y.reference < a.reference
    → joined (a ∷ as') (y ∷ ys) ≡ y ∷ joined (a ∷ as') ys
second_leads a as' y ys low =
    heads line_at a as' y ys ∙ ap (λ (b : Bool). by_heads line_at b a as' y ys) (lt-ltb y.reference a.reference low)

put_behind : (x y : LogLine) (ys : List LogLine) → precedes x.log x.reference y ≡ true → put x (y ∷ ys) ≡ y ∷ put x ys
put_behind x y ys is = ap (λ (b : Bool). if b then y ∷ put x ys else x ∷ y ∷ ys) is

put_before : (x y : LogLine) (ys : List LogLine) → precedes x.log x.reference y ≡ false → put x (y ∷ ys) ≡ x ∷ y ∷ ys
put_before x y ys is = ap (λ (b : Bool). if b then y ∷ put x ys else x ∷ y ∷ ys) is

-- A line of a later log

late_behind : (x a : LogLine) (as' : List LogLine) → a.log < x.log → ((ys : List LogLine) → joined as' (put x ys) ≡ put x (joined as' ys))
    → (ys : List LogLine) → joined (a ∷ as') (put x ys) ≡ put x (joined (a ∷ as') ys)
late_behind x a as' low rest [] = go (nat_lt x.reference a.reference) refl
  where
    go : (b : Bool) → nat_lt x.reference a.reference ≡ b → joined (a ∷ as') (x ∷ []) ≡ put x (joined (a ∷ as') [])
    go true is =
        let earlier : x.reference < a.reference = ltb-true x.reference a.reference is in
        second_leads a as' x [] earlier
        ∙ sym (put_before x a (joined as' []) (not_before x.log x.reference a (omega (arith, earlier)) (λ _. earlier)))
    go false is =
        let later : a.reference ≤ x.reference = ltb-false x.reference a.reference is in
        first_leads a as' x [] later ∙ ap (λ (ys : List LogLine). a ∷ ys) (rest [])
        ∙ sym (put_behind x a (joined as' []) (before x.log x.reference a later (λ (h : x.log < a.log). absurd (omega (arith, h, low)))))
late_behind x a as' low rest (y ∷ ys) =
    go (late_behind x a as' low rest ys) (precedes x.log x.reference y) refl (nat_lt y.reference a.reference) refl
  where
    go : joined (a ∷ as') (put x ys) ≡ put x (joined (a ∷ as') ys) → (b : Bool) → precedes x.log x.reference y ≡ b → (c : Bool) → nat_lt y.reference a.reference ≡ c
        → joined (a ∷ as') (put x (y ∷ ys)) ≡ put x (joined (a ∷ as') (y ∷ ys))
    go more true is true sooner =
        let earlier : y.reference < a.reference = ltb-true y.reference a.reference sooner in
        ap (joined (a ∷ as')) (put_behind x y ys is) ∙ second_leads a as' y (put x ys) earlier ∙ ap (λ (zs : List LogLine). y ∷ zs) more
        ∙ sym (ap (put x) (second_leads a as' y ys earlier) ∙ put_behind x y (joined (a ∷ as') ys) is)
    go more true is false sooner =
        let later : a.reference ≤ y.reference = ltb-false y.reference a.reference sooner in
        let low_y : y.reference ≤ x.reference = (is_before x.log x.reference y is).0 in
        ap (joined (a ∷ as')) (put_behind x y ys is) ∙ first_leads a as' y (put x ys) later
        ∙ ap (λ (zs : List LogLine). a ∷ joined as' zs) (sym (put_behind x y ys is)) ∙ ap (λ (zs : List LogLine). a ∷ zs) (rest (y ∷ ys))
        ∙ sym (ap (put x) (first_leads a as' y ys later) ∙ put_behind x a (joined as' (y ∷ ys)) (before x.log x.reference a (omega (arith, later, low_y)) (λ (h : x.log < a.log). absurd (omega (arith, h, low)))))
    go more false is true sooner =
        let earlier : y.reference < a.reference = ltb-true y.reference a.reference sooner in
        let high : x.reference ≤ y.reference = (is_not_before x.log x.reference y is).0 in
        ap (joined (a ∷ as')) (put_before x y ys is) ∙ second_leads a as' x (y ∷ ys) (omega (arith, earlier, high))
        ∙ ap (λ (zs : List LogLine). x ∷ zs) (second_leads a as' y ys earlier)
        ∙ sym (ap (put x) (second_leads a as' y ys earlier) ∙ put_before x y (joined (a ∷ as') ys) is)
    go more false is false sooner = last (nat_lt x.reference a.reference) refl
      where
        later : a.reference ≤ y.reference
        later = ltb-false y.reference a.reference sooner

        last : (d : Bool) → nat_lt x.reference a.reference ≡ d → joined (a ∷ as') (put x (y ∷ ys)) ≡ put x (joined (a ∷ as') (y ∷ ys))
        last true first =
            let earlier : x.reference < a.reference = ltb-true x.reference a.reference first in
            ap (joined (a ∷ as')) (put_before x y ys is) ∙ second_leads a as' x (y ∷ ys) earlier
            ∙ ap (λ (zs : List LogLine). x ∷ zs) (first_leads a as' y ys later)
            ∙ sym (ap (put x) (first_leads a as' y ys later) ∙ put_before x a (joined as' (y ∷ ys)) (not_before x.log x.reference a (omega (arith, earlier)) (λ _. earlier)))
        last false first =
            let behind : a.reference ≤ x.reference = ltb-false x.reference a.reference first in
            ap (joined (a ∷ as')) (put_before x y ys is) ∙ first_leads a as' x (y ∷ ys) behind
            ∙ ap (λ (zs : List LogLine). a ∷ joined as' zs) (sym (put_before x y ys is)) ∙ ap (λ (zs : List LogLine). a ∷ zs) (rest (y ∷ ys))
            ∙ sym (ap (put x) (first_leads a as' y ys later) ∙ put_behind x a (joined as' (y ∷ ys)) (before x.log x.reference a behind (λ (h : x.log < a.log). absurd (omega (arith, h, low)))))

-- the line of a log after this one
late : (x : LogLine) (log : List LogLine) → All (λ a. a.log < x.log) log → (ys : List LogLine) → joined log (put x ys) ≡ put x (joined log ys)
late x [] all ys = refl
late x (a ∷ as') all ys =
    late_behind x a as' (All-head (λ (b : LogLine). b.log < x.log) a as' all) (λ zs. late x as' (All-tail (λ (b : LogLine). b.log < x.log) a as' all) zs) ys

-- A line of the first log

-- a line of the same log, which has not come further
abbrev pub IsEarlier : LogLine → LogLine → Type 0
IsEarlier x a = (a.reference ≤ x.reference) × (a.log ≡ x.log)

abbrev IsLater : LogLine → LogLine → Type 0
IsLater x y = x.log < y.log

alone : (x : LogLine) (ys : List LogLine) → All (IsLater x) ys → joined (x ∷ []) ys ≡ put x ys
alone x [] all = refl
alone x (y ∷ ys) all = go (alone x ys (All-tail (IsLater x) y ys all)) (precedes x.log x.reference y) refl
  where
    higher : x.log < y.log
    higher = All-head (IsLater x) y ys all

    go : joined (x ∷ []) ys ≡ put x ys → (b : Bool) → precedes x.log x.reference y ≡ b → joined (x ∷ []) (y ∷ ys) ≡ put x (y ∷ ys)
    go more true is =
        second_leads x [] y ys ((is_before x.log x.reference y is).1 higher)
        ∙ ap (λ (zs : List LogLine). y ∷ zs) more ∙ sym (put_behind x y ys is)
    go more false is = first_leads x [] y ys (is_not_before x.log x.reference y is).0 ∙ sym (put_before x y ys is)

own_behind : (x a : LogLine) (as' : List LogLine) → IsEarlier x a
    → ((ys : List LogLine) → All (IsLater x) ys → joined (as' ++ x ∷ []) ys ≡ put x (joined as' ys)) → (ys : List LogLine) → All (IsLater x) ys
    → joined (a ∷ as' ++ x ∷ []) ys ≡ put x (joined (a ∷ as') ys)
own_behind x a as' earlier rest [] all =
    ap (λ (zs : List LogLine). a ∷ zs) (rest [] (All-nil (IsLater x)))
    ∙ sym (put_behind x a (joined as' []) (before x.log x.reference a earlier.0 (λ (h : x.log < a.log). absurd (omega (arith, h, earlier.1)))))
own_behind x a as' earlier rest (y ∷ ys) all =
    go (own_behind x a as' earlier rest ys (All-tail (IsLater x) y ys all)) (nat_lt y.reference a.reference) refl
  where
    low : a.reference ≤ x.reference
    low = earlier.0

    go : joined (a ∷ as' ++ x ∷ []) ys ≡ put x (joined (a ∷ as') ys) → (b : Bool) → nat_lt y.reference a.reference ≡ b → joined (a ∷ as' ++ x ∷ []) (y ∷ ys) ≡ put x (joined (a ∷ as') (y ∷ ys))
    go more true is =
        let sooner : y.reference < a.reference = ltb-true y.reference a.reference is in
        second_leads a (as' ++ x ∷ []) y ys sooner
        ∙ ap (λ (zs : List LogLine). y ∷ zs) more
        ∙ sym (ap (put x) (second_leads a as' y ys sooner) ∙ put_behind x y (joined (a ∷ as') ys) (before x.log x.reference y (omega (arith, sooner, low)) (λ _. omega (arith, sooner, low))))
    go more false is =
        let later : a.reference ≤ y.reference = ltb-false y.reference a.reference is in
        first_leads a (as' ++ x ∷ []) y ys later ∙ ap (λ (zs : List LogLine). a ∷ zs) (rest (y ∷ ys) all)
        ∙ sym (ap (put x) (first_leads a as' y ys later) ∙ put_behind x a (joined as' (y ∷ ys)) (before x.log x.reference a low (λ (h : x.log < a.log). absurd (omega (arith, h, earlier.1)))))

own : (x : LogLine) (log : List LogLine) → All (IsEarlier x) log → (ys : List LogLine) → All (IsLater x) ys → joined (log ++ x ∷ []) ys ≡ put x (joined log ys)
own x [] earlier ys all = alone x ys all
own x (a ∷ as') earlier ys all =
    own_behind x a as' (All-head (IsEarlier x) a as' earlier) (λ zs later. own x as' (All-tail (IsEarlier x) a as' earlier) zs later) ys all

-- A line of one of several logs

-- each has the lines of its number alone; they are numbered from n on
abbrev pub AreNumbered : ℕ → List (List LogLine) → Type 0
AreNumbered n logs = (k : ℕ) → k < length logs → All (λ x. x.log ≡ n + k) (get_or logs k [])

tail_numbered : (n : ℕ) (log : List LogLine) (logs : List (List LogLine)) → AreNumbered n (log ∷ logs) → AreNumbered (n + 1) logs
tail_numbered n log logs are = λ k within i d more. (let is = are (suc k) (omega (arith, within)) i d more in omega (arith, is))

-- those from a number on have no lower numbers
numbers_above : (m n : ℕ) (logs : List (List LogLine)) → m ≤ n → AreNumbered n logs → All (λ x. m ≤ x.log) (merge_all logs)
numbers_above m n [] low are = All-nil (λ (x : LogLine). m ≤ x.log)
numbers_above m n (log ∷ logs) low are =
    all_merged line_at (λ (x : LogLine). m ≤ x.log) log (merge_all logs)
    (λ i d within. (let is = are 0 (omega arith) i d within in omega (arith, is, low)))
    (numbers_above m (n + 1) logs (omega (arith, low)) (tail_numbered n log logs are))

-- a log goes on with a line that is no earlier than its others
pub put_last : (x : LogLine) (n p : ℕ) (logs : List (List LogLine)) → p < length logs → x.log ≡ n + p → AreNumbered n logs
    → All (λ a. a.reference ≤ x.reference) (get_or logs p [])
    → merge_all (set logs p (get_or logs p [] ++ x ∷ [])) ≡ put x (merge_all logs)
put_last x n p [] within of_log are reached = absurd (omega (arith, within))
put_last x n zero (log ∷ logs) within of_log are reached =
    own x log (λ i d more. (reached i d more, (let is = are 0 (omega arith) i d more in omega (arith, is, of_log)))) (merge_all logs)
    (λ i d more. (let high = numbers_above (n + 1) (n + 1) logs (omega arith) (tail_numbered n log logs are) i d more in omega (arith, high, of_log)))
put_last x n (suc p) (log ∷ logs) within of_log are reached =
    ap (joined log) (put_last x (n + 1) p logs (omega (arith, within)) (omega (arith, of_log)) (tail_numbered n log logs are) reached)
    ∙ late x log (λ i d more. (let is = are 0 (omega arith) i d more in omega (arith, is, of_log))) (merge_all logs)

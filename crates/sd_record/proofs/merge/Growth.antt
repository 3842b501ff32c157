-- What a line of a feed does to the merge of the logs, and to what of it is settled.
use Rattle.std.specs.Prelude.{◌≡◌, ◌≢◌, ◌<◌, ◌≤◌, ℕ, ◌+◌, All, Bool, true, false, List, [], ◌∷◌, ◌++◌, get_or, map, max, nat_eq, Option, Some, None, refl, if◌then◌else◌}
use Rattle.std.specs.List.{range_with_len}
use Rattle.std.proofs.Common.{arith, sym, ◌∙◌, ap, subst, set}
use Rattle.std.proofs.lemmas.Bool.{eqb-false, eqb-true, eq-eqb}
use Rattle.std.proofs.lemmas.Grind.{get_or-set_at}
use Rattle.std.proofs.lemmas.List.{append-nil, ext_get_or, get_or-set_other, length-set}
use Rattle.std.proofs.lemmas.List.Elements.{All-append, All-cons, All-nil}
use Rattle.std.proofs.lemmas.List.FromFn.{get_or-map-range_with_len, length-map-range_with_len}
use Rattle.sd_num.specs.Lists.{leading}
use Rattle.sd_record.specs.merge.Growing.{Said, from_of, froms_of, line_in, log_of, logs_of, merged, settled}
use Rattle.sd_record.specs.merge.Lines.{LogLine, merge_all, precedes, settled_by}
use Rattle.sd_record.proofs.merge.Putting.{AreNumbered, put, put_last}
use Rattle.sd_record.proofs.merge.Settling.{AllPassing, later, leading_behind, leading_pass, put_past, settled_at, stays}

-- By number

-- what differs at one number alone
pub one_differs : {X : Type 0} (f g : ℕ → X) (count p : ℕ) (d : X) → p < count → ((j : ℕ) → j ≢ 1 + p → g j ≡ f j)
    → map g (range_with_len 1 count) ≡ set (map f (range_with_len 1 count)) p (g (1 + p))
one_differs {X = X} f g count p d within others =
    ext_get_or d (map g (range_with_len 1 count)) (set (map f (range_with_len 1 count)) p (g (1 + p)))
    (length-map-range_with_len g 1 count ∙ sym (length-set (map f (range_with_len 1 count)) p (g (1 + p)) ∙ length-map-range_with_len f 1 count))
    (λ k more. (let many = length-map-range_with_len g 1 count in at k (omega (arith, more, many)) (nat_eq k p) refl))
  where
    at : (k : ℕ) → k < count → (b : Bool) → nat_eq k p ≡ b
        → get_or (map g (range_with_len 1 count)) k d ≡ get_or (set (map f (range_with_len 1 count)) p (g (1 + p))) k d
    at k inside true is =
        let here : k ≡ p = eqb-true k p is in
        let many = length-map-range_with_len f 1 count in
        get_or-map-range_with_len g 1 count k (1 + k) d inside refl ∙ ap (λ (m : ℕ). g (1 + m)) here
        ∙ sym (get_or-set_at (map f (range_with_len 1 count)) p k (g (1 + p)) d here (omega (arith, within, many)))
    at k inside false is =
        let other : k ≢ p = eqb-false k p is in
        get_or-map-range_with_len g 1 count k (1 + k) d inside refl ∙ others (1 + k) (λ same. other (omega (arith, same)))
        ∙ sym (get_or-set_other (map f (range_with_len 1 count)) p k (g (1 + p)) d other ∙ get_or-map-range_with_len f 1 count k (1 + k) d inside refl)

-- what differs nowhere
same_at_each : {X : Type 0} (f g : ℕ → X) → ((j : ℕ) → g j ≡ f j) → (numbers : List ℕ) → map g numbers ≡ map f numbers
same_at_each f g each [] = refl
same_at_each {X = X} f g each (j ∷ numbers) =
    ap (λ (x : X). x ∷ map g numbers) (each j) ∙ ap (λ (xs : List X). f j ∷ xs) (same_at_each f g each numbers)

differs : (a b : ℕ) → a ≢ b → nat_eq a b ≡ false
differs a b other = go (nat_eq a b) refl
  where
    go : (c : Bool) → nat_eq a b ≡ c → c ≡ false
    go true is = absurd (other (eqb-true a b is))
    go false is = refl

-- One log

own_log : (taken : List Said) (s : Said) (j : ℕ) → s.log ≡ j → log_of (s ∷ taken) j ≡ log_of taken j ++ line_in s.log s.reference s.entry
own_log taken s j is = ap (λ (b : Bool). log_of taken j ++ (if b then line_in s.log s.reference s.entry else [])) (eq-eqb s.log j is)

other_log : (taken : List Said) (s : Said) (j : ℕ) → s.log ≢ j → log_of (s ∷ taken) j ≡ log_of taken j
other_log taken s j other =
    ap (λ (b : Bool). log_of taken j ++ (if b then line_in s.log s.reference s.entry else [])) (differs s.log j other) ∙ append-nil (log_of taken j)

own_from : (taken : List Said) (s : Said) (j : ℕ) → s.log ≡ j → from_of (s ∷ taken) j ≡ max s.reference (from_of taken j)
own_from taken s j is = ap (λ (b : Bool). if b then max s.reference (from_of taken j) else from_of taken j) (eq-eqb s.log j is)

other_from : (taken : List Said) (s : Said) (j : ℕ) → s.log ≢ j → from_of (s ∷ taken) j ≡ from_of taken j
other_from taken s j other = ap (λ (b : Bool). if b then max s.reference (from_of taken j) else from_of taken j) (differs s.log j other)

-- it brings nothing before what it has brought
from_rises : (taken : List Said) (s : Said) (j : ℕ) → from_of taken j ≤ from_of (s ∷ taken) j
from_rises taken s j = go (nat_eq s.log j)
  where
    go : (b : Bool) → from_of taken j ≤ (if b then max s.reference (from_of taken j) else from_of taken j)
    go true = omega arith
    go false = omega arith

-- the line is of this log, and not after the reference that it has reached
abbrev pub IsOf : (number from : ℕ) → LogLine → Type 0
IsOf number from x = (x.log ≡ number) × (x.reference ≤ from)

log_has : (taken : List Said) (j : ℕ) → All (IsOf j (from_of taken j)) (log_of taken j)
log_has [] j = All-nil (IsOf j 0)
log_has (s ∷ taken) j =
    let rises = from_rises taken s j in
    All-append (IsOf j (from_of (s ∷ taken) j)) (log_of taken j) (if nat_eq s.log j then line_in s.log s.reference s.entry else [])
    (λ i d more. (let (number, reached) = log_has taken j i d more in (number, omega (arith, rises, reached)))) (go (nat_eq s.log j) refl)
  where
    line : (entry : Option (List ℕ)) → s.log ≡ j → s.reference ≤ from_of (s ∷ taken) j → All (IsOf j (from_of (s ∷ taken) j)) (line_in s.log s.reference entry)
    line None number reached = All-nil (IsOf j (from_of (s ∷ taken) j))
    line (Some bytes) number reached =
        All-cons (IsOf j (from_of (s ∷ taken) j)) (record { log = s.log; reference = s.reference; bytes = bytes }) [] (number, reached)
        (All-nil (IsOf j (from_of (s ∷ taken) j)))

    go : (b : Bool) → nat_eq s.log j ≡ b → All (IsOf j (from_of (s ∷ taken) j)) (if b then line_in s.log s.reference s.entry else [])
    go true is =
        let number : s.log ≡ j = eqb-true s.log j is in
        let from = own_from taken s j number in line s.entry number (omega (arith, from))
    go false is = All-nil (IsOf j (from_of (s ∷ taken) j))

-- All logs

pub froms_at : (count : ℕ) (taken : List Said) (k : ℕ) → k < count → get_or (froms_of count taken) k 0 ≡ from_of taken (1 + k)
froms_at count taken k within = get_or-map-range_with_len (from_of taken) 1 count k (1 + k) 0 within refl

logs_at : (count : ℕ) (taken : List Said) (k : ℕ) → k < count → get_or (logs_of count taken) k [] ≡ log_of taken (1 + k)
logs_at count taken k within = get_or-map-range_with_len (log_of taken) 1 count k (1 + k) [] within refl

numbered : (count : ℕ) (taken : List Said) → AreNumbered 1 (logs_of count taken)
numbered count taken k more =
    let many = length-map-range_with_len (log_of taken) 1 count in
    subst (All (λ x. x.log ≡ 1 + k)) (sym (logs_at count taken k (omega (arith, more, many)))) (λ i d inside. (log_has taken (1 + k) i d inside).0)

-- a line of the feed, of the log at a place
module _ (count : ℕ) (taken : List Said) (s : Said) (p : ℕ) (within : p < count) (number : s.log ≡ 1 + p) where
  pub froms_grow : froms_of count (s ∷ taken) ≡ set (froms_of count taken) p (max s.reference (from_of taken (1 + p)))
  froms_grow =
      one_differs (from_of taken) (from_of (s ∷ taken)) count p 0 within (λ j other. other_from taken s j (λ same. other (sym same ∙ number)))
      ∙ ap (set (froms_of count taken) p) (own_from taken s (1 + p) number)

  -- what was settled stays so
  all_stay : AllPassing (settled_by 1 (froms_of count (s ∷ taken))) (settled count taken)
  all_stay =
      λ i d more.
      (let before = length-map-range_with_len (from_of taken) 1 count in
      let now = length-map-range_with_len (from_of (s ∷ taken)) 1 count in
      stays 1 (froms_of count taken) (froms_of count (s ∷ taken)) (get_or (settled count taken) i d) (now ∙ sym before)
      (λ k inside. (let few : k < count = omega (arith, inside, before) in
      let old = froms_at count taken k few in
      let new = froms_at count (s ∷ taken) k few in
      let rises = from_rises taken s (1 + k) in omega (arith, old, new, rises)))
      (leading_pass (settled_by 1 (froms_of count taken)) (merged count taken) i d more))

  -- what is settled goes on with what of the rest is
  pub settles : (rest : List LogLine) → merged count (s ∷ taken) ≡ settled count taken ++ rest
      → settled count (s ∷ taken) ≡ settled count taken ++ leading (settled_by 1 (froms_of count (s ∷ taken))) rest
  settles rest is =
      ap (leading (settled_by 1 (froms_of count (s ∷ taken)))) is
      ∙ leading_behind (settled_by 1 (froms_of count (s ∷ taken))) (settled count taken) rest all_stay

  -- it brings no line
  pub same_merge : s.entry ≡ None → merged count (s ∷ taken) ≡ merged count taken
  same_merge none = ap merge_all (same_at_each (log_of taken) (log_of (s ∷ taken)) (λ j. go j (nat_eq s.log j)) (range_with_len 1 count))
    where
      go : (j : ℕ) (b : Bool) → log_of taken j ++ (if b then line_in s.log s.reference s.entry else []) ≡ log_of taken j
      go j true = ap (λ (entry : Option (List ℕ)). log_of taken j ++ line_in s.log s.reference entry) none ∙ append-nil (log_of taken j)
      go j false = append-nil (log_of taken j)

  -- it brings a line, which stands after all that is settled
  module _ (bytes : List ℕ) (entry : s.entry ≡ Some bytes) (reached : from_of taken (1 + p) ≤ s.reference) where
    abbrev pub new_line : LogLine
    new_line = record { log = s.log; reference = s.reference; bytes = bytes }

    new_logs : logs_of count (s ∷ taken) ≡ set (logs_of count taken) p (get_or (logs_of count taken) p [] ++ new_line ∷ [])
    new_logs =
        one_differs (log_of taken) (log_of (s ∷ taken)) count p [] within (λ j other. other_log taken s j (λ same. other (sym same ∙ number)))
        ∙ ap (set (logs_of count taken) p)
        (own_log taken s (1 + p) number
        ∙ ap (λ (o : Option (List ℕ)). log_of taken (1 + p) ++ line_in s.log s.reference o) entry
        ∙ ap (λ (log : List LogLine). log ++ new_line ∷ []) (sym (logs_at count taken p within)))

    low : All (λ a. a.reference ≤ s.reference) (get_or (logs_of count taken) p [])
    low =
        subst (All (λ a. a.reference ≤ s.reference)) (sym (logs_at count taken p within))
        (λ i d more. (let (of_log, below) = log_has taken (1 + p) i d more in omega (arith, below, reached)))

    all_before : AllPassing (precedes s.log s.reference) (settled count taken)
    all_before =
        λ i d more.
        (let many = length-map-range_with_len (from_of taken) 1 count in
        let from = froms_at count taken p within in
        subst (λ (n : ℕ). precedes n s.reference (get_or (settled count taken) i d) ≡ true) (sym number)
        (later (1 + p) (get_or (froms_of count taken) p 0) s.reference (get_or (settled count taken) i d) (omega (arith, from, reached))
        (settled_at 1 p (froms_of count taken) (get_or (settled count taken) i d)
        (leading_pass (settled_by 1 (froms_of count taken)) (merged count taken) i d more) (omega (arith, many, within)))))

    pub merge_grows : (rest : List LogLine) → merged count taken ≡ settled count taken ++ rest
        → merged count (s ∷ taken) ≡ settled count taken ++ put new_line rest
    merge_grows rest is =
        ap merge_all new_logs
        ∙ put_last new_line 1 p (logs_of count taken) (let many = length-map-range_with_len (log_of taken) 1 count in omega (arith, many, within)) number
        (numbered count taken) low
        ∙ ap (put new_line) is ∙ put_past new_line (settled count taken) rest all_before

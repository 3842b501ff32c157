-- Which line of all that wait is the first of their merge, and whether it is settled.
use Rattle.std.specs.Prelude.{◌≡◌, ◌≢◌, ◌<◌, ◌≤◌, ℕ, zero, suc, ◌+◌, All, Bool, true, false, List, [], ◌∷◌, get_or, length, map, nat_lt, refl}
use Rattle.std.proofs.Common.{arith, sym, ◌∙◌, ap, subst, set}
use Rattle.std.proofs.lemmas.List.{get_or-map, length-map, map-set}
use Rattle.std.proofs.lemmas.List.Elements.{All-head, All-tail}
use Rattle.std.proofs.Math.Seq.{map-set_same}
use Rattle.sd_num.specs.Lists.{leading}
use Rattle.sd_record.proofs.merge.Merges.{by_heads, heads}
use Rattle.sd_record.specs.merge.Lines.{LogLine, line_at, merge_all, settled_by}
use Rattle.sd_record.specs.merge.Queues.{AreKept, IsFirstLeast, IsReached, Queue, bound_of, bounds_of, first_or, froms, merged_waiting, new_queue, settled_front}
use Rattle.sd_record.proofs.merge.Keeping.{kept_set}
use Rattle.sd_record.proofs.merge.Order.{before, not_before}
use Rattle.sd_record.proofs.merge.Putting.{first_leads, joined, second_leads}
use Rattle.sd_record.proofs.merge.Settling.{all_settled, none_leads, not_settled}

-- What holds of the first line

-- of the first of them, if there is one
abbrev pub StartsWith : (LogLine → Type 0) → List LogLine → Type 0
StartsWith P [] = Unit {0}
StartsWith P (x ∷ xs) = P x

joined_starts : (P : LogLine → Type 0) (first second : List LogLine) → StartsWith P first → StartsWith P second → StartsWith P (joined first second)
joined_starts P [] second one two = two
joined_starts P (x ∷ first) [] one two = one
joined_starts P (x ∷ first) (y ∷ second) one two =
    subst (StartsWith P) (sym (heads line_at x first y second)) (go (nat_lt y.reference x.reference))
  where
    go : (b : Bool) → StartsWith P (by_heads line_at b x first y second)
    go true = two
    go false = one

-- it holds of the first line of all logs, where it does of the first line of each
pub all_start : (P : LogLine → Type 0) (logs : List (List LogLine)) → ((k : ℕ) → k < length logs → StartsWith P (get_or logs k []))
    → StartsWith P (merge_all logs)
all_start P [] each = tt
all_start P (log ∷ logs) each =
    joined_starts P log (merge_all logs) (each 0 (omega arith)) (all_start P logs (λ k within. each (suc k) (omega (arith, within))))

nothing_leads : (test : LogLine → Bool) (ys : List LogLine) → StartsWith (λ y. test y ≡ false) ys → leading test ys ≡ []
nothing_leads test [] is = refl
nothing_leads test (y ∷ ys) is = none_leads test y ys is

-- The first line of all

leads : (x : LogLine) (xs ys : List LogLine) → StartsWith (λ y. x.reference ≤ y.reference) ys → joined (x ∷ xs) ys ≡ x ∷ joined xs ys
leads x xs [] low = refl
leads x xs (y ∷ ys) low = first_leads x xs y ys low

leads_behind : (x : LogLine) (log ys : List LogLine) → StartsWith (λ y. x.reference < y.reference) log → joined log (x ∷ ys) ≡ x ∷ joined log ys
leads_behind x [] ys low = refl
leads_behind x (a ∷ log) ys low = second_leads a log x ys low

-- the line leads its log, the logs before that begin after it, and those after it not before
pub picked : (x : LogLine) (xs : List LogLine) (p : ℕ) (logs : List (List LogLine)) → p < length logs → get_or logs p [] ≡ x ∷ xs
    → ((k : ℕ) → k < p → StartsWith (λ y. x.reference < y.reference) (get_or logs k []))
    → ((k : ℕ) → k < length logs → StartsWith (λ y. x.reference ≤ y.reference) (get_or logs k []))
    → merge_all logs ≡ x ∷ merge_all (set logs p xs)
picked x xs p [] within is sooner least = absurd (omega (arith, within))
picked x xs zero (log ∷ logs) within is sooner least =
    ap (λ (l : List LogLine). joined l (merge_all logs)) is
    ∙ leads x xs (merge_all logs) (all_start (λ (y : LogLine). x.reference ≤ y.reference) logs (λ k inside. least (suc k) (omega (arith, inside))))
picked x xs (suc p) (log ∷ logs) within is sooner least =
    ap (joined log) (picked x xs p logs (omega (arith, within)) is (λ k below. sooner (suc k) (omega (arith, below)))
    (λ k inside. least (suc k) (omega (arith, inside))))
    ∙ leads_behind x log (merge_all (set logs p xs)) (sooner 0 (omega arith))

-- The first of all that waits

abbrev pub waiting_in : Queue → List LogLine
waiting_in q = q.waiting

abbrev pub from_in : Queue → ℕ
from_in q = q.from

-- what waits of the log at a place
pub waiting_at : (queues : List Queue) (k : ℕ) → k < length queues → get_or (map waiting_in queues) k [] ≡ (get_or queues k new_queue).waiting
waiting_at queues k within = get_or-map waiting_in queues k new_queue [] within

pub from_at : (queues : List Queue) (k : ℕ) → k < length queues → get_or (froms queues) k 0 ≡ (get_or queues k new_queue).from
from_at queues k within = get_or-map from_in queues k new_queue 0 within

pub bound_at : (queues : List Queue) (k : ℕ) → k < length queues → get_or (bounds_of queues) k 0 ≡ bound_of (get_or queues k new_queue)
bound_at queues k within = get_or-map bound_of queues k new_queue 0 within

-- a log starts from its bound
starts_from : (r from : ℕ) (xs : List LogLine) → r ≤ first_or from xs → StartsWith (λ y. r ≤ y.reference) xs
starts_from r from [] low = tt
starts_from r from (x ∷ xs) low = low

starts_above : (r from : ℕ) (xs : List LogLine) → r < first_or from xs → StartsWith (λ y. r < y.reference) xs
starts_above r from [] low = tt
starts_above r from (x ∷ xs) low = low

-- the bound of a log is not after the reference that it has reached
bound_low : (n from : ℕ) (xs : List LogLine) → All (IsReached n from) xs → first_or from xs ≤ from
bound_low n from [] all = omega arith
bound_low n from (x ∷ xs) all = (All-head (IsReached n from) x xs all).reached

-- a log without its first line
abbrev pub left_of : Queue → List LogLine → Queue
left_of q xs = record { from = q.from; waiting = xs }

module _ (queues : List Queue) (p : ℕ) (first : IsFirstLeast (bounds_of queues) p) where
  inside : p < length queues
  inside = let within = first.within in let same = length-map queues bound_of in omega (arith, within, same)

  module _ (x : LogLine) (xs : List LogLine) (is : (get_or queues p new_queue).waiting ≡ x ∷ xs) where
    own_bound : get_or (bounds_of queues) p 0 ≡ x.reference
    own_bound = bound_at queues p inside ∙ ap (first_or (get_or queues p new_queue).from) is

    at_least : (k : ℕ) → k < length queues → x.reference ≤ bound_of (get_or queues k new_queue)
    at_least k within =
        let same = length-map queues bound_of in
        let low = first.least k (omega (arith, within, same)) in
        let bound = bound_at queues k within in
        omega (arith, low, bound, own_bound)

    above : (k : ℕ) → k < p → x.reference < bound_of (get_or queues k new_queue)
    above k below =
        let low = first.before k below in
        let bound = bound_at queues k (omega (arith, below, inside)) in
        omega (arith, low, bound, own_bound)

    -- it comes first
    pub comes_first : merged_waiting queues ≡ x ∷ merged_waiting (set queues p (left_of (get_or queues p new_queue) xs))
    comes_first =
        picked x xs p (map waiting_in queues) (let same = length-map queues waiting_in in omega (arith, same, inside)) (waiting_at queues p inside ∙ is)
        (λ k below. (let within : k < length queues = omega (arith, below, inside) in
        subst (StartsWith (λ (y : LogLine). x.reference < y.reference)) (sym (waiting_at queues k within))
        (starts_above x.reference (get_or queues k new_queue).from (get_or queues k new_queue).waiting (above k below))))
        (λ k more. (let same = length-map queues waiting_in in
        let within : k < length queues = omega (arith, more, same) in
        subst (StartsWith (λ (y : LogLine). x.reference ≤ y.reference)) (sym (waiting_at queues k within))
        (starts_from x.reference (get_or queues k new_queue).from (get_or queues k new_queue).waiting (at_least k within))))
        ∙ ap (λ (logs : List (List LogLine)). x ∷ merge_all logs) (sym (map-set waiting_in queues p (left_of (get_or queues p new_queue) xs)))

    module _ (kept : AreKept queues) where
      reached : IsReached (p + 1) (get_or queues p new_queue).from x
      reached =
          All-head (IsReached (p + 1) (get_or queues p new_queue).from) x xs
          (subst (All (IsReached (p + 1) (get_or queues p new_queue).from)) is (kept p inside))

      -- it is settled
      pub is_settled : settled_by 1 (froms queues) x ≡ true
      is_settled =
          all_settled 1 (froms queues) x
          (λ k more. (let same = length-map queues from_in in
          let within : k < length queues = omega (arith, more, same) in
          let low : first_or (get_or queues k new_queue).from (get_or queues k new_queue).waiting ≤ (get_or queues k new_queue).from =
          bound_low (k + 1) (get_or queues k new_queue).from (get_or queues k new_queue).waiting (kept k within) in
          let from = from_at queues k within in
          let least = at_least k within in
          before (1 + k) (get_or (froms queues) k 0) x (omega (arith, low, from, least))
          (λ (h : 1 + k < x.log). (let number = reached.of_log in
          let higher = above k (omega (arith, h, number)) in omega (arith, low, from, higher)))))

      -- the others wait as before
      pub others_kept : AreKept (set queues p (left_of (get_or queues p new_queue) xs))
      others_kept =
          kept_set queues p (left_of (get_or queues p new_queue) xs) kept
          (All-tail (IsReached (p + 1) (get_or queues p new_queue).from) x xs
          (subst (All (IsReached (p + 1) (get_or queues p new_queue).from)) is (kept p inside)))

    -- up to where each has come they are as before
    pub same_froms : froms (set queues p (left_of (get_or queues p new_queue) xs)) ≡ froms queues
    same_froms = map-set_same from_in queues p (left_of (get_or queues p new_queue) xs) new_queue refl

  -- nothing waits of that log, and it may bring a line before all that waits
  module _ (none : (get_or queues p new_queue).waiting ≡ []) (kept : AreKept queues) where
    bound_is : get_or (bounds_of queues) p 0 ≡ (get_or queues p new_queue).from
    bound_is = bound_at queues p inside ∙ ap (first_or (get_or queues p new_queue).from) none

    waits_for : (k : ℕ) (ys : List LogLine) → k < length queues → (get_or queues k new_queue).waiting ≡ ys
        → StartsWith (λ y. settled_by 1 (froms queues) y ≡ false) ys
    waits_for k [] within is = tt
    waits_for k (y ∷ ys) within is =
        let same = length-map queues bound_of in
        let number : y.log ≡ k + 1 =
        (All-head (IsReached (k + 1) (get_or queues k new_queue).from) y ys
        (subst (All (IsReached (k + 1) (get_or queues k new_queue).from)) is (kept k within))).of_log in
        let starts : get_or (bounds_of queues) k 0 ≡ y.reference = bound_at queues k within ∙ ap (first_or (get_or queues k new_queue).from) is in
        let from = from_at queues p inside in
        let low = first.least k (omega (arith, within, same)) in
        let other : k ≢ p =
        λ here. (let both : y ∷ ys ≡ [] = sym is ∙ ap (λ (m : ℕ). (get_or queues m new_queue).waiting) here ∙ none in cc) in
        not_settled 1 p (froms queues) y (let many = length-map queues from_in in omega (arith, many, inside))
        (not_before (1 + p) (get_or (froms queues) p 0) y (omega (arith, low, starts, from, bound_is))
        (λ (h : y.log ≤ 1 + p). (let below : k < p = omega (arith, h, number, other) in
        let higher = first.before k below in omega (arith, higher, starts, from, bound_is))))

    pub none_settled : settled_front queues ≡ []
    none_settled =
        nothing_leads (settled_by 1 (froms queues)) (merged_waiting queues)
        (all_start (λ (y : LogLine). settled_by 1 (froms queues) y ≡ false) (map waiting_in queues)
        (λ k more. (let many = length-map queues waiting_in in
        let within : k < length queues = omega (arith, more, many) in
        waits_for k (get_or (map waiting_in queues) k []) within (sym (waiting_at queues k within)))))

-- What is found among flights that ascend by number.
use Rattle.std.proofs.Common.{◌≡◌, ℕ, zero, suc, ◌<◌, ◌≤◌, Bool, true, false, not, cond, List, [], ◌∷◌, length, get_or, find, Option, Some, None, Result, Ok, Err, refl, ap, subst, ◌∙◌, arith}
use Rattle.std.specs.Prelude.{IsOk}
use Rattle.std.specs.List.{filter}
use Rattle.std.specs.Option.{ok_or}
use Rattle.std.proofs.lemmas.Bool.{eq-eqb, ne_eqb, eqb-true}
use Rattle.sd_device.specs.declared.msg.Flight.{Flight}
use Rattle.sd_device.specs.declared.msg.TakeFault.{TakeFault}
use Rattle.sd_device.specs.declared.msg.TakeFault.TheVariants as fault
use Rattle.sd_device.specs.msg.Books.{has_number, is_given, found, without, AreNumbered}
use Rattle.sd_device.proofs.msg.Numbered.{number_at, above, numbered_filter}

-- where no flight has the number
pub absent : (n : ℕ) (fs : List Flight) → ((k : ℕ) (d : Flight) → k < length fs → number_at fs k d ≡ n → ⊥) → find (has_number n) fs ≡ None
absent n [] others = refl
absent n (f ∷ fs) others =
    let rest : find (has_number n) fs ≡ None = absent n fs (λ k d within. others (suc k) d (omega arith)) in
    rw (ne_eqb f.number n (others zero f (omega arith))) rest

-- where all numbers are above it
pub beyond : (floor top n : ℕ) (fs : List Flight) → AreNumbered floor top fs → n ≤ floor → find (has_number n) fs ≡ None
beyond floor top n fs h low =
    absent n fs (λ k d within same.
    let far : floor < number_at fs k d = above floor top fs h k d within in
    omega arith)

-- the number of the first flight is not that of a later one
pub first_is_other : (floor top n : ℕ) (f : Flight) (fs : List Flight) (i : ℕ) → AreNumbered floor top (f ∷ fs) → i < length fs → number_at fs i f ≡ n
    → has_number n f ≡ false
first_is_other floor top n f fs i h within here =
    let far : f.number < number_at fs i f = above f.number top fs h.1 i f within in
    ne_eqb f.number n (λ same. omega arith)

-- the flight at the place has the number
pub found_at : (floor top n : ℕ) (fs : List Flight) (i : ℕ) → AreNumbered floor top fs → i < length fs → ((d : Flight) → number_at fs i d ≡ n)
    → (d : Flight) → find (has_number n) fs ≡ Some (get_or fs i d)
found_at floor top n [] i h within here d = absurd (omega arith)
found_at floor top n (f ∷ fs) zero h within here d = rw (eq-eqb f.number n (here f)) refl
found_at floor top n (f ∷ fs) (suc i) h within here d =
    rw (first_is_other floor top n f fs i h (omega arith) (here f)) (found_at f.number top n fs i h.1 (omega arith) here d)

-- a number that is not found leaves all
pub without_none : (n : ℕ) (fs : List Flight) → find (has_number n) fs ≡ None → without n fs ≡ fs
without_none n [] none = refl
without_none n (f ∷ fs) none = by_test (has_number n f) (without_none n fs) none
  where
    by_test : (b : Bool) → (find (has_number n) fs ≡ None → without n fs ≡ fs) → cond b (Some f) (find (has_number n) fs) ≡ None
        → cond (not b) (f ∷ without n fs) (without n fs) ≡ f ∷ fs
    by_test true rest found = cc
    by_test false rest found = ap (λ gs. f ∷ gs) (rest found)

-- Among those that pass a test

-- what of a flight that was found passes
abbrev pub if_passing : (Flight → Bool) → Option Flight → Option Flight
if_passing test None = None
if_passing test (Some f) = cond (test f) (Some f) None

-- the numbers differ, so no other takes the place of one that does not pass
pub find_passing : (floor top n : ℕ) (test : Flight → Bool) (fs : List Flight) → AreNumbered floor top fs
    → find (has_number n) (filter test fs) ≡ if_passing test (find (has_number n) fs)
find_passing floor top n test [] h = refl
find_passing floor top n test (f ∷ fs) h = by (has_number n f) (test f) refl refl (find_passing f.number top n test fs h.1)
  where
    by : (a b : Bool) → has_number n f ≡ a → test f ≡ b → find (has_number n) (filter test fs) ≡ if_passing test (find (has_number n) fs)
        → find (has_number n) (cond b (f ∷ filter test fs) (filter test fs)) ≡ if_passing test (cond a (Some f) (find (has_number n) fs))
    by true true here passes rest = rw (here, passes) refl
    by true false here passes rest =
        let same : f.number ≡ n = eqb-true f.number n here in
        beyond f.number top n (filter test fs) (numbered_filter f.number top test fs h.1) (omega arith) ∙ rw passes refl
    by false true here passes rest = rw here rest
    by false false here passes rest = rest

-- what is found of those that pass
abbrev pub found_passing : (Flight → Bool) → Result Flight TakeFault → Result Flight TakeFault
found_passing test (Ok f) = cond (test f) (Ok f) (Err fault.Spent)
found_passing test (Err e) = Err e

pub found_among : (last n : ℕ) (test : Flight → Bool) (fs : List Flight) → AreNumbered 0 last fs
    → found last (filter test fs) n ≡ found_passing test (found last fs n)
found_among last n test fs h = by (is_given last n) (find (has_number n) fs) (find_passing 0 last n test fs h)
  where
    chosen : (f : Flight) (b : Bool) → ok_or (cond b (Some f) None) fault.Spent ≡ cond b (Ok f) (Err fault.Spent)
    chosen f true = refl
    chosen f false = refl

    by : (b : Bool) (o : Option Flight) → find (has_number n) (filter test fs) ≡ if_passing test o
        → cond b (ok_or (find (has_number n) (filter test fs)) fault.Spent) (Err fault.Unknown)
        ≡ found_passing test (cond b (ok_or o fault.Spent) (Err fault.Unknown))
    by true None same = ap (λ x. ok_or x fault.Spent) same
    by true (Some f) same = ap (λ x. ok_or x fault.Spent) same ∙ chosen f (test f)
    by false o same = refl

-- where one is found of those that pass, it is the one that is found of all
pub found_one : (last n : ℕ) (test : Flight → Bool) (fs : List Flight) (o : Result Flight TakeFault) → AreNumbered 0 last fs
    → IsOk (found last (filter test fs) n) → found last fs n ≡ o → found last (filter test fs) n ≡ o
found_one last n test fs o h there is = by_test o among (subst IsOk among there)
  where
    among : found last (filter test fs) n ≡ found_passing test o
    among = found_among last n test fs h ∙ ap (found_passing test) is

    by_flight : (f : Flight) (b : Bool) → found last (filter test fs) n ≡ cond b (Ok f) (Err fault.Spent) → IsOk (cond b (Ok f) (Err fault.Spent))
        → found last (filter test fs) n ≡ Ok f
    by_flight f true found passes = found
    by_flight f false found passes = cc

    by_test : (r : Result Flight TakeFault) → found last (filter test fs) n ≡ found_passing test r → IsOk (found_passing test r)
        → found last (filter test fs) n ≡ r
    by_test (Ok f) found passes = by_flight f (test f) found passes
    by_test (Err e) found passes = found

-- so one is found of all
pub one_of_all : (last n : ℕ) (test : Flight → Bool) (fs : List Flight) (e : TakeFault) → AreNumbered 0 last fs
    → IsOk (found last (filter test fs) n) → found last fs n ≡ Err e → ⊥
one_of_all last n test fs e h there is =
    let fails : IsOk {T = Flight} (Err e) = subst IsOk (found_one last n test fs (Err e) h there is) there in
    cc

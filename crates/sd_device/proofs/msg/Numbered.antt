-- Flights that ascend by number.
use Rattle.std.proofs.Common.{◌≡◌, ℕ, zero, suc, ◌+◌, ◌<◌, ◌≤◌, Bool, true, false, cond, List, [], ◌∷◌, ◌++◌, length, get_or, set, arith}
use Rattle.std.specs.List.{filter}
use Rattle.std.specs.List.Sorted.{IsNonDecreasingBy}
use Rattle.sd_device.specs.declared.msg.Flight.{Flight}
use Rattle.sd_device.specs.msg.Books.{AreNumbered}
use Rattle.sd_device.specs.msg.Spent.{as_spent}

abbrev pub number_at : List Flight → ℕ → Flight → ℕ
number_at fs k d = (get_or fs k d).number

-- each number is above the floor
pub above : (floor top : ℕ) (fs : List Flight) → AreNumbered floor top fs → (k : ℕ) (d : Flight) → k < length fs → floor < number_at fs k d
above floor top [] h k d within = absurd (omega arith)
above floor top (f ∷ fs) h zero d within = h.0
above floor top (f ∷ fs) h (suc k) d within =
    let rest : f.number < number_at fs k d = above f.number top fs h.1 k d (omega arith) in
    omega (arith, h.0)

-- a later number is greater
pub apart : (floor top : ℕ) (fs : List Flight) → AreNumbered floor top fs → (i j : ℕ) (d : Flight) → i < j → j < length fs → number_at fs i d < number_at fs j d
apart floor top [] h i j d order within = absurd (omega arith)
apart floor top (f ∷ fs) h i zero d order within = absurd (omega arith)
apart floor top (f ∷ fs) h zero (suc j) d order within = above f.number top fs h.1 j d (omega arith)
apart floor top (f ∷ fs) h (suc i) (suc j) d order within = apart f.number top fs h.1 i j d (omega arith) (omega arith)

-- so they rise
pub rises : (floor top : ℕ) (fs : List Flight) → AreNumbered floor top fs → IsNonDecreasingBy (λ (f : Flight). f.number) fs
rises floor top [] h i j d order within = absurd (omega arith)
rises floor top (f ∷ fs) h zero zero d order within = omega arith
rises floor top (f ∷ fs) h zero (suc j) d order within =
    let far : f.number < number_at fs j d = above f.number top fs h.1 j d (omega arith) in
    omega (arith, far)
rises floor top (f ∷ fs) h (suc i) zero d order within = absurd (omega arith)
rises floor top (f ∷ fs) h (suc i) (suc j) d order within = rises f.number top fs h.1 i j d (omega arith) (omega arith)

-- the floor is no higher than the top
pub floor_low : (floor top : ℕ) (fs : List Flight) → AreNumbered floor top fs → floor ≤ top
floor_low floor top [] h = h
floor_low floor top (f ∷ fs) h =
    let rest : f.number ≤ top = floor_low f.number top fs h.1 in
    omega (arith, h.0, rest)

-- a lower floor serves
pub lower : (low floor top : ℕ) (fs : List Flight) → low ≤ floor → AreNumbered floor top fs → AreNumbered low top fs
lower low floor top [] order h = omega (arith, h)
lower low floor top (f ∷ fs) order h = (omega (arith, h.0), h.1)

-- some of them
pub numbered_filter : (floor top : ℕ) (test : Flight → Bool) (fs : List Flight) → AreNumbered floor top fs → AreNumbered floor top (filter test fs)
numbered_filter floor top test [] h = h
numbered_filter floor top test (f ∷ fs) h = by_test (test f) (numbered_filter f.number top test fs h.1)
  where
    by_test : (b : Bool) → AreNumbered f.number top (filter test fs) → AreNumbered floor top (cond b (f ∷ filter test fs) (filter test fs))
    by_test true rest = (h.0, rest)
    by_test false rest = lower floor f.number top (filter test fs) (omega (arith, h.0)) rest

-- a flight with the next number
pub numbered_push : (floor last : ℕ) (fs : List Flight) (f : Flight) → f.number ≡ last + 1 → AreNumbered floor last fs
    → AreNumbered floor (last + 1) (fs ++ f ∷ [])
numbered_push floor last [] f next h = (omega (arith, next, h), omega (arith, next))
numbered_push floor last (g ∷ fs) f next h = (h.0, numbered_push g.number last fs f next h.1)

-- a flight that is spent in its place keeps its number
pub numbered_spent : (floor top : ℕ) (fs : List Flight) (i : ℕ) (f : Flight) → AreNumbered floor top fs → i < length fs → ((d : Flight) → f ≡ get_or fs i d)
    → AreNumbered floor top (set fs i (as_spent f))
numbered_spent floor top [] i f h within is = h
numbered_spent floor top (g ∷ fs) zero f h within is = rw (is f) h
numbered_spent floor top (g ∷ fs) (suc i) f h within is = (h.0, numbered_spent g.number top fs i f h.1 (omega arith) is)

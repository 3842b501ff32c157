-- What is found by number among flights that ascend by number.
use Rattle.std.specs.Prelude.{◌≡◌, ℕ, ◌+◌, ◌<◌, ◌≤◌, Bool, true, false, ◌||◌, cond, List, [], ◌∷◌, ◌++◌, length, find, filter, nat_eq, Option, Some, None, option_and_then, ◌⊎◌, refl, if◌then◌else◌}
use Rattle.std.specs.List.{list_any}
use Rattle.std.specs.Option.{option_or}
use Rattle.std.proofs.Common.{arith, sym, subst, inl, inr}
use Rattle.std.proofs.lemmas.Bool.{eq-eqb, eqb-true, ne_eqb, cases_eq, cases_Bool}
use Rattle.sd_device.specs.declared.msg.Flight.{Flight}
use Rattle.sd_device.specs.msg.Books.{has_number, AreNumbered}
use Rattle.sd_num.proofs.Firsts.{find_passes}
use Rattle.sd_device.proofs.msg.Numbered.{numbered_filter}
use Rattle.sd_device.proofs.msg.Finding.{beyond}
use Rattle.sd_history.proofs.Among.{Among, first, later}
use Rattle.sd_history.specs.flights.Flights.{AreNumberedOn}

-- two lists of which the second goes on where the first ends
pub joined : (n : ℕ) (xs ys : List Flight) → AreNumberedOn n xs → AreNumberedOn (n + length xs) ys → AreNumberedOn n (xs ++ ys)
joined n [] ys is more = let same : n + 0 ≡ n = omega arith in subst (λ (k : ℕ). AreNumberedOn k ys) same more
joined n (f ∷ fs) ys is more =
    let same : n + length (f ∷ fs) ≡ n + 1 + length fs = omega arith in
    (is.0, joined (n + 1) fs ys is.1 (subst (λ (k : ℕ). AreNumberedOn k ys) same more))

-- so they ascend
pub ascend : (n top : ℕ) (fs : List Flight) → AreNumberedOn (n + 1) fs → n + length fs ≤ top → AreNumbered n top fs
ascend n top [] is fits = omega arith
ascend n top (f ∷ fs) is fits =
    let number : f.number ≡ n + 1 = is.0 in
    (omega arith, subst (λ (k : ℕ). AreNumbered k top fs) (sym number) (ascend (n + 1) top fs is.1 (omega arith)))

-- a number that is given is found
pub there : (m n : ℕ) (fs : List Flight) → AreNumberedOn m fs → m ≤ n → n < m + length fs → (f : Flight) × (find (has_number n) fs ≡ Some f) × (f.number ≡ n)
there m n [] is low high = absurd (omega arith)
there m n (f ∷ fs) is low high =
    let number : f.number ≡ m = is.0 in
    elim (cases_eq f.number n) [
      | inl same ↦ (f, rw (eq-eqb f.number n same) refl, same)
      | inr apart ↦ (let rest : (g : Flight) × (find (has_number n) fs ≡ Some g) × (g.number ≡ n) = there (m + 1) n fs is.1 (omega arith) (omega arith) in
          (rest.0, rw (ne_eqb f.number n apart) rest.1, rest.2))
    ]

-- the bounds of their numbers
pub within : (n : ℕ) (fs : List Flight) (f : Flight) → AreNumberedOn n fs → Among f fs → (n ≤ f.number) × (f.number < n + length fs)
within n (g ∷ fs) f is first = let number : f.number ≡ n = is.0 in (omega (arith, number), omega (arith, number))
within n (g ∷ fs) f is (later a) = let rest = within (n + 1) fs f is.1 a in (omega (arith, rest.0), omega (arith, rest.1))
within n [] f is a = elim a [ ]

-- each of them is found by its number
pub finds : (n : ℕ) (fs : List Flight) (f : Flight) → AreNumberedOn n fs → Among f fs → find (has_number f.number) fs ≡ Some f
finds n [] f is a = elim a [ ]
finds n (g ∷ fs) f is first = rw (eq-eqb f.number f.number refl) refl
finds n (g ∷ fs) f is (later a) =
    let past = within (n + 1) fs f is.1 a in
    let number : g.number ≡ n = is.0 in
    rw (ne_eqb g.number f.number (λ same. omega (arith, past.0))) (finds (n + 1) fs f is.1 a)

-- what is found by a number has it
pub found_number : (n : ℕ) (fs : List Flight) (f : Flight) → find (has_number n) fs ≡ Some f → f.number ≡ n
found_number n fs f is = eqb-true f.number n (find_passes (has_number n) fs f is)

-- a number above all is not found
pub past_all : (floor top n : ℕ) (fs : List Flight) → AreNumbered floor top fs → top < n → (find (has_number n) fs ≡ None) × (floor ≤ top)
past_all floor top n [] h far = (refl, h)
past_all floor top n (f ∷ fs) h far =
    let rest : (find (has_number n) fs ≡ None) × (f.number ≤ top) = past_all f.number top n fs h.1 far in
    let low : floor < f.number = h.0 in
    let most : f.number ≤ top = rest.1 in
    (rw (ne_eqb f.number n (λ same. omega arith)) rest.0, omega arith)

-- where none is found none has the number
pub none_has : (n : ℕ) (fs : List Flight) → find (has_number n) fs ≡ None → list_any (λ f. nat_eq f.number n) fs ≡ false
none_has n [] none = refl
none_has n (f ∷ fs) none = go (nat_eq f.number n) none (none_has n fs)
  where
    go : (b : Bool) → cond b (Some f) (find (has_number n) fs) ≡ None → (find (has_number n) fs ≡ None → list_any (λ g. nat_eq g.number n) fs ≡ false)
        → (b || list_any (λ g. nat_eq g.number n) fs) ≡ false
    go true found rest = cc
    go false found rest = rest found

pub some_has : (n : ℕ) (fs : List Flight) (f : Flight) → find (has_number n) fs ≡ Some f → list_any (λ g. nat_eq g.number n) fs ≡ true
some_has n [] f found = cc
some_has n (g ∷ fs) f found = go (nat_eq g.number n) found (some_has n fs f)
  where
    go : (b : Bool) → cond b (Some g) (find (has_number n) fs) ≡ Some f → (find (has_number n) fs ≡ Some f → list_any (λ h. nat_eq h.number n) fs ≡ true)
        → (b || list_any (λ h. nat_eq h.number n) fs) ≡ true
    go true found' rest = refl
    go false found' rest = rest found'

-- what is found among those that pass a test is what is found among all, where it passes
pub find_passing : (floor top n : ℕ) (test : Flight → Bool) (fs : List Flight) → AreNumbered floor top fs
    → find (has_number n) (filter test fs) ≡ option_and_then (λ f. if test f then Some f else None) (find (has_number n) fs)
find_passing floor top n test [] h = refl
find_passing floor top n test (f ∷ fs) h =
    let rest : find (has_number n) (filter test fs) ≡ option_and_then (λ g. if test g then Some g else None) (find (has_number n) fs) =
    find_passing f.number top n test fs h.1 in
    elim (cases_Bool (test f)) [
      | inl passes ↦ elim (cases_eq f.number n) [
        | inl same ↦ rw (passes, eq-eqb f.number n same, passes) refl
        | inr apart ↦ rw (passes, ne_eqb f.number n apart) rest
      ]
      | inr fails ↦ elim (cases_eq f.number n) [
        | inl same ↦ rw (fails, eq-eqb f.number n same, fails) (beyond f.number top n (filter test fs) (numbered_filter f.number top test fs h.1) (omega arith))
        | inr apart ↦ rw (fails, ne_eqb f.number n apart) rest
      ]
    ]

-- of two options of which one is empty
pub either_first : (a b : Option Flight) → (a ≡ None) ⊎ (b ≡ None) → option_or a b ≡ option_or b a
either_first None None one = refl
either_first None (Some y) one = refl
either_first (Some x) None one = refl
either_first (Some x) (Some y) (inl none) = cc
either_first (Some x) (Some y) (inr none) = cc

-- Entries in the order in which their flights were sent, and which of these wait.
use Rattle.std.proofs.Common.{◌≡◌, ℕ, zero, suc, ◌+◌, ◌<◌, ◌≤◌, Bool, true, false, ◌&&◌, cond, List, [], ◌∷◌, ◌++◌, length, get_or, drop, set, Option, Some, None, nat_eq, ◌⊎◌, inl, inr, refl, sym, ◌∙◌, ap, subst, arith}
use Rattle.std.specs.List.{All, filter}
use Rattle.std.specs.Option.{is_some}
use Rattle.std.specs.List.Sorted.{IsNonDecreasingBy}
use Rattle.std.proofs.lemmas.Bool.{cases_eq, cases_lt, eq-eqb, ne_eqb}
use Rattle.std.proofs.lemmas.List.Elements.{All-head, All-tail}
use Rattle.std.proofs.lemmas.Option.{same_Some}
use Rattle.sd_monitors.specs.declared.loss.flights.WaitingFlight.{WaitingFlight}
use Rattle.sd_monitors.specs.declared.loss.flights.orderly.Entry.{Entry}
use Rattle.sd_monitors.specs.loss.flights.OrderlyKept.{waits_at, IsBefore, AreInOrder}

abbrev pub number_at : List Entry → ℕ → Entry → ℕ
number_at es k d = (get_or es k d).flight.number

-- without the first
rest : (e : Entry) (es : List Entry) → AreInOrder (e ∷ es) → AreInOrder es
rest e es h i j d order within = h (suc i) (suc j) d (omega arith) (omega arith)

pub order_rest : (es : List Entry) → AreInOrder es → AreInOrder (drop 1 es)
order_rest [] h = h
order_rest (e ∷ es) h = rest e es h

-- the numbers rise
pub rises : (es : List Entry) → AreInOrder es → IsNonDecreasingBy (λ (e : Entry). e.flight.number) es
rises es h i j d order within = by (cases_eq i j)
  where
    by : (i ≡ j) ⊎ (i ≡ j → ⊥) → number_at es i d ≤ number_at es j d
    by (inl same) = subst (λ k. number_at es i d ≤ number_at es k d) same (omega arith)
    by (inr other) = let apart = h i j d (omega (arith, other)) within in omega (arith, apart.0)

-- those that were received are not there without them either
pub received_out : (n : ℕ) (es : List Entry) → waits_at (filter (λ e. e.waits) es) n ≡ waits_at es n
received_out n [] = refl
received_out n (e ∷ es) = by e.waits refl (received_out n es)
  where
    passes : (a b : Bool) (o : Option WaitingFlight) → b ≡ false → cond (a && b) (Some e.flight) o ≡ o
    passes true b o received = rw received refl
    passes false b o received = refl

    by : (b : Bool) → e.waits ≡ b → waits_at (filter (λ x. x.waits) es) n ≡ waits_at es n
        → waits_at (cond b (e ∷ filter (λ x. x.waits) es) (filter (λ x. x.waits) es)) n ≡ waits_at (e ∷ es) n
    by true waits rest = ap (λ o. cond (nat_eq e.flight.number n && e.waits) (Some e.flight) o) rest
    by false received rest = rest ∙ sym (passes (nat_eq e.flight.number n) e.waits (waits_at es n) received)

-- A flight after all others

-- the last is before it, and so are those before the last
pub before_all : (es : List Entry) (i : ℕ) (last : Entry) (f : WaitingFlight) → AreInOrder es → i + 1 ≡ length es → ((d : Entry) → last ≡ get_or es i d)
    → IsBefore last.flight f → All (λ e. IsBefore e.flight f) es
before_all es i last f h ends is before k d within = by (cases_lt k i)
  where
    is_before : IsBefore (get_or es i d).flight f
    is_before = subst (λ (e : Entry). IsBefore e.flight f) (is d) before

    by : (k < i) ⊎ (i ≤ k) → IsBefore (get_or es k d).flight f
    by (inl early) = let apart = h k i d early (omega (arith, ends)) in (omega (arith, apart.0, is_before.0), omega (arith, apart.1, is_before.1))
    by (inr late) = let same : i ≡ k = omega (arith, within, late, ends) in subst (λ j. IsBefore (get_or es j d).flight f) same is_before

-- an entry whose number another does not have, where that one's flight is put in or taken out
passed : (n m : ℕ) (e : Entry) (new old put : Option WaitingFlight) → (e.flight.number ≡ n → m ≡ n → ⊥) → new ≡ cond (nat_eq m n) put old
    → cond (nat_eq e.flight.number n && e.waits) (Some e.flight) new ≡ cond (nat_eq m n) put (cond (nat_eq e.flight.number n && e.waits) (Some e.flight) old)
passed n m e new old put other is = by (cases_eq e.flight.number n)
  where
    by : (e.flight.number ≡ n) ⊎ (e.flight.number ≡ n → ⊥)
        → cond (nat_eq e.flight.number n && e.waits) (Some e.flight) new
        ≡ cond (nat_eq m n) put (cond (nat_eq e.flight.number n && e.waits) (Some e.flight) old)
    by (inl same) =
        let differs : nat_eq m n ≡ false = ne_eqb m n (other same) in
        let unchanged : new ≡ old = is ∙ ap (λ b. cond b put old) differs in
        rw (differs, unchanged) refl
    by (inr apart) = rw (ne_eqb e.flight.number n apart) is

-- so it is found
pub pushed : (n : ℕ) (es : List Entry) (f : WaitingFlight) → All (λ e. IsBefore e.flight f) es
    → waits_at (es ++ record { flight = f; waits = true } ∷ []) n ≡ cond (nat_eq f.number n) (Some f) (waits_at es n)
pushed n [] f before = by (nat_eq f.number n)
  where
    by : (b : Bool) → cond (b && true) (Some f) None ≡ cond b (Some f) None
    by true = refl
    by false = refl
pushed n (e ∷ es) f before =
    let less = before zero e (omega arith) in
    passed n f.number e (waits_at (es ++ record { flight = f; waits = true } ∷ []) n) (waits_at es n) (Some f) (λ this that. omega (arith, less.0, this, that))
    (pushed n es f (λ k d within. before (suc k) d (omega arith)))

-- A number and its place

-- where no entry has the number
pub absent : (n : ℕ) (es : List Entry) → All (λ e. e.flight.number ≡ n → ⊥) es → waits_at es n ≡ None
absent n [] others = refl
absent n (e ∷ es) others = rw (ne_eqb e.flight.number n (others zero e (omega arith))) (absent n es (λ k d within. others (suc k) d (omega arith)))

-- so it changes nothing to take it out
pub absent_out : (n m : ℕ) (es : List Entry) → All (λ e. e.flight.number ≡ m → ⊥) es → waits_at es n ≡ cond (nat_eq m n) None (waits_at es n)
absent_out n m es others = by (cases_eq m n)
  where
    by : (m ≡ n) ⊎ (m ≡ n → ⊥) → waits_at es n ≡ cond (nat_eq m n) None (waits_at es n)
    by (inl same) = rw (eq-eqb m n same) (subst (λ k. waits_at es k ≡ None) same (absent m es others))
    by (inr other) = rw (ne_eqb m n other) refl

-- after the entry with a number there is no other
none_after : (n : ℕ) (e : Entry) (es : List Entry) → AreInOrder (e ∷ es) → e.flight.number ≡ n → waits_at es n ≡ None
none_after n e es h here =
    absent n es (λ k d within same.
    let apart = h zero (suc k) d (omega arith) (omega (arith, within)) in
    omega (arith, apart.0, here, same))

-- all before the place have smaller numbers, the one at the place has a greater one, and so have those after it
pub none_there : (n : ℕ) (es : List Entry) (i : ℕ) (e : Entry) → AreInOrder es → ((k : ℕ) (d : Entry) → k < i → number_at es k d < n)
    → ((k : ℕ) (d : Entry) → i ≤ k → k < length es → n ≤ number_at es k d) → i < length es → ((d : Entry) → e ≡ get_or es i d) → (e.flight.number ≡ n → ⊥)
    → All (λ g. g.flight.number ≡ n → ⊥) es
none_there n es i e h before after inside is other k d within same = by (cases_lt k i)
  where
    by : (k < i) ⊎ (i ≤ k) → ⊥
    by (inl early) = let less : number_at es k d < n = before k d early in omega (arith, less, same)
    by (inr late) =
        let low : n ≤ number_at es i d = after i d (omega arith) inside in
        let high : number_at es i d ≤ number_at es k d = rises es h i k d late within in
        other (ap (λ (g : Entry). g.flight.number) (is d) ∙ omega (arith, low, high, same))

-- the flight of an entry, where it waits
abbrev pub waiting_of : Entry → Option WaitingFlight
waiting_of e = cond e.waits (Some e.flight) None

-- the entry at the place has the number
at_place : (n : ℕ) (es : List Entry) (i : ℕ) (d : Entry) → AreInOrder es → i < length es → number_at es i d ≡ n → waits_at es n ≡ waiting_of (get_or es i d)
at_place n [] i d h within here = absurd (omega (arith, within))
at_place n (e ∷ es) zero d h within here = rw (eq-eqb e.flight.number n here) (by e.waits)
  where
    by : (b : Bool) → cond b (Some e.flight) (waits_at es n) ≡ cond b (Some e.flight) None
    by true = refl
    by false = none_after n e es h here
at_place n (e ∷ es) (suc i) d h within here =
    let apart = h zero (suc i) d (omega arith) within in
    rw (ne_eqb e.flight.number n (λ same. omega (arith, apart.0, here, same))) (at_place n es i d (rest e es h) (omega (arith, within)) here)

-- so the number waits where the entry does
pub waits_there : (n : ℕ) (es : List Entry) (i : ℕ) (e : Entry) → AreInOrder es → i < length es → e ≡ get_or es i e → number_at es i e ≡ n
    → e.waits ≡ is_some (waits_at es n)
waits_there n es i e h within is here = sym (ap is_some (at_place n es i e h within here) ∙ ap (λ (x : Entry). is_some (waiting_of x)) (sym is) ∙ by e.waits)
  where
    by : (b : Bool) → is_some (cond b (Some e.flight) None) ≡ b
    by true = refl
    by false = refl

-- the same entry, which waits no longer
abbrev pub struck : Entry → Entry
struck e = record { flight = e.flight; waits = false }

-- so its flight is no longer found
pub struck_out : (n : ℕ) (es : List Entry) (i : ℕ) (e : Entry) → AreInOrder es → i < length es → e ≡ get_or es i e
    → waits_at (set es i (struck e)) n ≡ cond (nat_eq e.flight.number n) None (waits_at es n)
struck_out n [] i e h within is = absurd (omega (arith, within))
struck_out n (g ∷ es) zero e h within is = rw is (by (cases_eq g.flight.number n))
  where
    by : (g.flight.number ≡ n) ⊎ (g.flight.number ≡ n → ⊥) → waits_at (struck g ∷ es) n ≡ cond (nat_eq g.flight.number n) None (waits_at (g ∷ es) n)
    by (inl same) = rw (eq-eqb g.flight.number n same) (none_after n g es h same)
    by (inr other) = rw (ne_eqb g.flight.number n other) refl
struck_out n (g ∷ es) (suc i) e h within is =
    let apart = h zero (suc i) e (omega arith) within in
    let number : e.flight.number ≡ number_at es i e = ap (λ (x : Entry). x.flight.number) is in
    passed n e.flight.number g (waits_at (set es i (struck e)) n) (waits_at es n) None (λ this that. omega (arith, apart.0, number, this, that))
    (struck_out n es i e (rest g es h) (omega (arith, within)) is)

-- The first

-- it does not wait
pub without_first : (n : ℕ) (es : List Entry) (e : Entry) → e ≡ get_or es 0 e → e.waits ≡ false → waits_at (drop 1 es) n ≡ waits_at es n
without_first n [] e is gone = refl
without_first n (g ∷ es) e is gone = rw (subst (λ (x : Entry). x.waits ≡ false) is gone) (by (nat_eq g.flight.number n))
  where
    by : (b : Bool) → waits_at es n ≡ cond (b && false) (Some g.flight) (waits_at es n)
    by true = refl
    by false = refl

-- it waits, and is taken out
pub without_waiting : (n : ℕ) (e : Entry) (es : List Entry) → AreInOrder (e ∷ es) → waits_at es n ≡ cond (nat_eq e.flight.number n) None (waits_at (e ∷ es) n)
without_waiting n e es h = by (cases_eq e.flight.number n)
  where
    by : (e.flight.number ≡ n) ⊎ (e.flight.number ≡ n → ⊥) → waits_at es n ≡ cond (nat_eq e.flight.number n) None (waits_at (e ∷ es) n)
    by (inl same) = rw (eq-eqb e.flight.number n same) (none_after n e es h same)
    by (inr other) = rw (ne_eqb e.flight.number n other) refl

-- where it is due at the reference or later, so is each that waits
pub late : (reference n : ℕ) (f : WaitingFlight) (es : List Entry) → All (λ e. reference ≤ e.flight.due) es → waits_at es n ≡ Some f → reference ≤ f.due
late reference n f [] each at = cc
late reference n f (e ∷ es) each at =
    by (nat_eq e.flight.number n && e.waits) (late reference n f es (All-tail (λ (g : Entry). reference ≤ g.flight.due) e es each)) at
  where
    by : (b : Bool) → (waits_at es n ≡ Some f → reference ≤ f.due) → cond b (Some e.flight) (waits_at es n) ≡ Some f → reference ≤ f.due
    by true others this = subst (λ (g : WaitingFlight). reference ≤ g.due) (same_Some e.flight f this) (All-head (λ (g : Entry). reference ≤ g.flight.due) e es each)
    by false others that = others that

pub all_late : (reference : ℕ) (es : List Entry) → AreInOrder es → ((d : Entry) → 0 < length es → reference ≤ (get_or es 0 d).flight.due)
    → All (λ e. reference ≤ e.flight.due) es
all_late reference es h first zero d within = first d within
all_late reference es h first (suc k) d within =
    let apart = h zero (suc k) d (omega arith) within in
    let early : reference ≤ (get_or es 0 d).flight.due = first d (omega (arith, within)) in
    omega (arith, apart.1, early)

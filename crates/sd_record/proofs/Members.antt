-- The messages on their way: which are among them, and what a look under a number tells of them.
use Rattle.std.specs.Prelude.{◌≡◌, ℕ, zero, suc, ◌+◌, ◌<◌, ◌≤◌, Bool, true, false, ◌&&◌, not, List, [], ◌∷◌, cond, filter, find, nat_le, ok_or, Option, Some, None, Result, Ok, Err, refl, if◌then◌else◌}
use Rattle.std.specs.List.{Contains}
use Rattle.std.proofs.Common.{arith, sym, ◌∙◌, ap, subst}
use Rattle.std.proofs.lemmas.Bool.{and_from, and_parts, eqb-true, le-leb, leb-false, leb-true, lt-leb}
use Rattle.std.proofs.lemmas.List.Elements.{Contains-append_right}
use Rattle.sd_num.specs.Lists.{map_or}
use Rattle.sd_device.specs.declared.msg.Flight.{Flight}
use Rattle.sd_device.specs.declared.msg.TakeFault.{TakeFault}
use Rattle.sd_device.specs.declared.msg.TakeFault.TheVariants as fault
use Rattle.sd_device.specs.msg.Books.{AreNumbered, has_number, is_given}
use Rattle.sd_device.proofs.msg.Numbered.{floor_low}
use Rattle.sd_history.specs.World.{Setting}
use Rattle.sd_history.specs.Steps.{Step, flight_count, flight_numbered}
use Rattle.sd_history.specs.Open.{unspent}
use Rattle.sd_history.specs.Accepted.{AreSteps}
use Rattle.sd_history.specs.Refusals.{is_spent}
use Rattle.sd_history.specs.flights.Flights.{look_in, says_unknown, sent_in_order}
use Rattle.sd_history.proofs.Among.{Among, first, later}
use Rattle.sd_history.proofs.flights.Finds.{finds}
use Rattle.sd_history.proofs.flights.Looks.{look_is}
use Rattle.sd_history.proofs.flights.Numbers.{found_in_order, numbered_in_order}

-- Elements of lists

pub among : {A : Type 0} (xs : List A) (x : A) → Contains xs x → Among x xs
among [] x (k, within, is) = absurd (omega (arith, within))
among {A = A} (y ∷ ys) x (zero, within, is) = subst (λ (z : A). Among z (y ∷ ys)) is first
among (y ∷ ys) x (suc k, within, is) = later (among ys x (k, omega (arith, within), is))

pub contained : {A : Type 0} (xs : List A) (x : A) → Among x xs → Contains xs x
contained [] x a = elim a [ ]
contained (y ∷ ys) x first = (0, omega arith, refl)
contained (y ∷ ys) x (later a) = Contains-append_right (y ∷ []) ys x (contained ys x a)

-- what a filter keeps is of the list, and passes
pub kept : {A : Type 0} (p : A → Bool) (xs : List A) (x : A) → Among x (filter p xs) → Among x xs × (p x ≡ true)
kept p [] x a = elim a [ ]
kept {A = A} p (y ∷ ys) x a = go (p y) refl a (kept p ys x)
  where
    at_head : (zs : List A) (b : A) → p b ≡ true → Among x (b ∷ zs) → (Among x zs → Among x ys × (p x ≡ true)) → Among x (b ∷ ys) × (p x ≡ true)
    at_head zs b passes first rest = (first, passes)
    at_head zs b passes (later c) rest = let it = rest c in (later it.0, it.1)

    go : (b : Bool) → p y ≡ b → Among x (cond b (y ∷ filter p ys) (filter p ys)) → (Among x (filter p ys) → Among x ys × (p x ≡ true))
        → Among x (y ∷ ys) × (p x ≡ true)
    go true passes b rest = at_head (filter p ys) y passes b rest
    go false fails b rest = let it = rest b in (later it.0, it.1)

-- what is found is of the list, and passes
found_passes : {A : Type 0} (p : A → Bool) (xs : List A) (x : A) → find p xs ≡ Some x → Among x xs × (p x ≡ true)
found_passes p [] x is = cc
found_passes {A = A} p (y ∷ ys) x is = go (p y) refl is (found_passes p ys x)
  where
    go : (b : Bool) → p y ≡ b → cond b (Some y) (find p ys) ≡ Some x → (find p ys ≡ Some x → Among x ys × (p x ≡ true)) → Among x (y ∷ ys) × (p x ≡ true)
    go true passes same rest =
        let it : y ≡ x = ap (λ o. map_or o y (λ z. z)) same in
        subst (λ (z : A). Among z (y ∷ ys) × (p z ≡ true)) it (first, passes)
    go false fails same rest = let it = rest same in (later it.0, it.1)

-- Numbers that ascend

pub among_above : (floor top : ℕ) (fs : List Flight) (f : Flight) → AreNumbered floor top fs → Among f fs → floor < f.number
among_above floor top [] f numbered a = elim a [ ]
among_above floor top (u ∷ us) f numbered first = numbered.0
among_above floor top (u ∷ us) f numbered (later a) =
    let low = numbered.0 in let high = among_above u.number top us f numbered.1 a in omega (arith, low, high)

pub among_given : (floor top : ℕ) (fs : List Flight) (f : Flight) → AreNumbered floor top fs → Among f fs → f.number ≤ top
among_given floor top [] f numbered a = elim a [ ]
among_given floor top (u ∷ us) f numbered first = floor_low u.number top us numbered.1
among_given floor top (u ∷ us) f numbered (later a) = among_given u.number top us f numbered.1 a

-- Looks

-- a message that is not spent is found under its number
pub on_way_found : (setting : Setting) (steps : List Step) (f : Flight) → AreSteps setting steps → Among f (unspent steps 0)
    → look_in steps f.number ≡ Ok f
on_way_found setting steps f are a =
    let it = kept (λ g. not (is_spent steps 0 g)) (sent_in_order steps) f a in
    let numbered : flight_numbered steps f.number ≡ Some f =
    sym (found_in_order setting steps f.number are) ∙ finds 1 (sent_in_order steps) f (numbered_in_order setting steps are) it.0 in
    ap (λ (o : Option Flight). map_or o (Err fault.Unknown) (λ g. if is_spent steps 0 g then Err fault.Spent else Ok g)) numbered
    ∙ by (is_spent steps 0 f) it.1
  where
    by : (b : Bool) → not b ≡ true → ◌≡◌ {A = Result Flight TakeFault} (if b then Err fault.Spent else Ok f) (Ok f)
    by true spent = cc
    by false unspent' = refl

-- what is found under a number is on its way, and has the number
pub found_on_way : (setting : Setting) (steps : List Step) (n : ℕ) (f : Flight) → AreSteps setting steps → look_in steps n ≡ Ok f
    → Among f (unspent steps 0) × (f.number ≡ n)
found_on_way setting steps n f are is =
    by (is_given (flight_count steps) n) (find (has_number n) (unspent steps 0)) refl (look_is setting steps n are ∙ is)
  where
    by : (b : Bool) (o : Option Flight) → find (has_number n) (unspent steps 0) ≡ o
        → ◌≡◌ {A = Result Flight TakeFault} (if b then ok_or o fault.Spent else Err fault.Unknown) (Ok f)
        → Among f (unspent steps 0) × (f.number ≡ n)
    by true None there same = cc
    by true (Some g) there same =
        let it : g ≡ f = cc in
        let seen = found_passes (has_number n) (unspent steps 0) f (there ∙ ap (λ (x : Flight). Some x) it) in (seen.0, eqb-true f.number n seen.1)
    by false o there same = cc

-- a number of which something is known was given
pub known_given : (setting : Setting) (steps : List Step) (n : ℕ) → AreSteps setting steps → (found' : Result Flight TakeFault)
    → found' ≡ look_in steps n → says_unknown found' ≡ false
    → n ≤ flight_count steps
known_given setting steps n are found' is known = by (is_given (flight_count steps) n) refl (is ∙ sym (look_is setting steps n are))
  where
    by : (b : Bool) → is_given (flight_count steps) n ≡ b → found' ≡ (if b then ok_or (find (has_number n) (unspent steps 0)) fault.Spent else Err fault.Unknown)
        → n ≤ flight_count steps
    by true given same = leb-true n (flight_count steps) (and_parts (nat_le 1 n) (nat_le n (flight_count steps)) given).1
    by false given same = absurd (let never : true ≡ false = sym (ap says_unknown same) ∙ known in cc)

-- where nothing is known of the next number no further one was given
pub unknown_last : (setting : Setting) (steps : List Step) (n : ℕ) → AreSteps setting steps → (found' : Result Flight TakeFault)
    → found' ≡ look_in steps (n + 1) → says_unknown found' ≡ true
    → flight_count steps ≤ n
unknown_last setting steps n are found' is unknown = by (nat_le (n + 1) (flight_count steps)) refl
  where
    never : (o : Option Flight) → says_unknown (ok_or o fault.Spent) ≡ true → ⊥
    never None told = cc
    never (Some f) told = cc

    by : (b : Bool) → nat_le (n + 1) (flight_count steps) ≡ b → flight_count steps ≤ n
    by true few =
        let given : is_given (flight_count steps) (n + 1) ≡ true =
        and_from (nat_le 1 (n + 1)) (nat_le (n + 1) (flight_count steps)) (le-leb 1 (n + 1) (omega arith)) few in
        let there : found' ≡ ok_or (find (has_number (n + 1)) (unspent steps 0)) fault.Spent =
        is ∙ sym (look_is setting steps (n + 1) are)
        ∙ ap (λ b. if b then ok_or (find (has_number (n + 1)) (unspent steps 0)) fault.Spent else Err fault.Unknown) given in
        absurd (never (find (has_number (n + 1)) (unspent steps 0)) (sym (ap says_unknown there) ∙ unknown))
    by false many = let high = leb-false (n + 1) (flight_count steps) many in omega (arith, high)

-- nothing is known of a number that is greater than any schedule has
pub too_great : (setting : Setting) (steps : List Step) (n : ℕ) → AreSteps setting steps → flight_count steps < n → Err fault.Unknown ≡ look_in steps n
too_great setting steps n are great =
    sym (ap (λ b. if b then ok_or (find (has_number n) (unspent steps 0)) fault.Spent else Err fault.Unknown)
    (both (nat_le 1 n) (nat_le n (flight_count steps)) (lt-leb n (flight_count steps) great)))
    ∙ look_is setting steps n are
  where
    both : (a b : Bool) → b ≡ false → (a && b) ≡ false
    both true b none = none
    both false b none = refl

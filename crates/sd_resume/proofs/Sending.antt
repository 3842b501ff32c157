-- How many messages were sent, by what is found under a number.
use Rattle.std.specs.Prelude.{◌≡◌, ℕ, ◌+◌, ◌≤◌, Bool, true, false, not, List, nat_le, Option, Some, None, is_some, Result, Ok, Err, is_ok, refl, if◌then◌else◌}
use Rattle.std.proofs.Common.{arith, sym, ◌∙◌, ap, inl, inr}
use Rattle.std.proofs.lemmas.Bool.{cases_lt}
use Rattle.std.proofs.lemmas.Bool.Decides.{nat_tests}
use Rattle.sd_num.specs.Lists.{map_or}
use Rattle.sd_device.specs.declared.msg.Flight.{Flight}
use Rattle.sd_device.specs.declared.msg.TakeFault.{TakeFault}
use Rattle.sd_device.specs.declared.msg.TakeFault.TheVariants.{Unknown, Spent}
use Rattle.sd_device.specs.msg.Books.{is_given}
use Rattle.sd_history.specs.World.{Setting}
use Rattle.sd_history.specs.Steps.{Step, flight_count, flight_numbered}
use Rattle.sd_history.specs.Refusals.{is_spent}
use Rattle.sd_history.specs.Accepted.{AreSteps}
use Rattle.sd_history.specs.flights.Flights.{look_in, says_unknown}
use Rattle.sd_history.proofs.flights.Numbers.{numbered_exactly, numbered_none}
use Rattle.sd_resume.specs.law.Cuts.{NoneOnItsWay}

known_by : (steps : List Step) (o : Option Flight) → not (says_unknown (map_or o (Err Unknown) (λ f. if is_spent steps 0 f then Err Spent else Ok f))) ≡ is_some o
known_by steps None = refl
known_by steps (Some f) = go (is_spent steps 0 f)
  where
    go : (b : Bool) → not (says_unknown (if b then Err Spent else Ok f)) ≡ true
    go true = refl
    go false = refl

-- a flight that was sent has one of the numbers that were given
pub sent_number : (setting : Setting) (steps : List Step) (n : ℕ) (f : Flight) → AreSteps setting steps → flight_numbered steps n ≡ Some f
    → n ≤ flight_count steps
sent_number setting steps n f are found =
    upto (flight_count steps) n (sym (numbered_exactly setting steps n are) ∙ ap is_some found)
  where
    upto : (count n : ℕ) → is_given count n ≡ true → n ≤ count
    upto count n given = grind (arith, nat_tests, given)

-- a number from 1 on is known exactly where this many were sent
pub known_is_sent : (setting : Setting) (steps : List Step) (n : ℕ) → AreSteps setting steps → 1 ≤ n
    → not (says_unknown (look_in steps n)) ≡ nat_le n (flight_count steps)
known_is_sent setting steps n are some =
    known_by steps (flight_numbered steps n) ∙ numbered_exactly setting steps n are ∙ from_one n (flight_count steps) some
  where
    from_one : (n count : ℕ) → 1 ≤ n → is_given count n ≡ nat_le n count
    from_one n count some = grind (arith, nat_tests)

-- a message of which nothing is found is not on its way
pub spent_by : (steps : List Step) (n : ℕ) (f : Flight) → flight_numbered steps n ≡ Some f → ((g : Flight) → look_in steps n ≡ Ok g → ⊥)
    → is_spent steps 0 f ≡ true
spent_by steps n f found none =
    go (is_spent steps 0 f) refl
  where
    looked : look_in steps n ≡ (if is_spent steps 0 f then Err Spent else Ok f)
    looked = ap (λ (o : Option Flight). map_or o (Err Unknown) (λ g. if is_spent steps 0 g then Err Spent else Ok g)) found

    go : (b : Bool) → is_spent steps 0 f ≡ b → is_spent steps 0 f ≡ true
    go true is = is
    go false is = absurd (none f (looked ∙ ap (λ (b : Bool). if b then Err Spent else Ok f) is))

-- a message that is found is on its way
pub on_its_way : (steps : List Step) (n : ℕ) (g : Flight) → look_in steps n ≡ Ok g
    → (f : Flight) × (flight_numbered steps n ≡ Some f) × (is_spent steps 0 f ≡ false)
on_its_way steps n g is = by (flight_numbered steps n) is
  where
    by : (o : Option Flight) → map_or o (Err Unknown) (λ f. if is_spent steps 0 f then Err Spent else Ok f) ≡ Ok g
        → (f : Flight) × (o ≡ Some f) × (is_spent steps 0 f ≡ false)
    by None none = cc
    by (Some f) found = (f, refl, go (is_spent steps 0 f) refl found)
      where
        go : (b : Bool) → is_spent steps 0 f ≡ b → ◌≡◌ {A = Result Flight TakeFault} (if b then Err Spent else Ok f) (Ok g) → is_spent steps 0 f ≡ false
        go true spent found' = cc
        go false spent found' = spent

-- the same of what is found, be it a message or not
pub found_on_its_way : (steps : List Step) (n : ℕ) (o : Result Flight TakeFault) → o ≡ look_in steps n → is_ok o ≡ true
    → (f : Flight) × (flight_numbered steps n ≡ Some f) × (is_spent steps 0 f ≡ false)
found_on_its_way steps n (Ok g) is ok = on_its_way steps n g (sym is)
found_on_its_way steps n (Err e) is ok = cc

pub not_found_is_spent : (steps : List Step) (n : ℕ) (o : Result Flight TakeFault) → o ≡ look_in steps n → is_ok o ≡ false
    → (f : Flight) → flight_numbered steps n ≡ Some f → is_spent steps 0 f ≡ true
not_found_is_spent steps n (Ok g) is ok = cc
not_found_is_spent steps n (Err e) is ok = λ f found. spent_by steps n f found (λ g looked. never g (is ∙ looked))
  where
    never : (g : Flight) → ◌≡◌ {A = Result Flight TakeFault} (Err e) (Ok g) → ⊥
    never g same = cc

-- before the first message none is on its way
pub none_before : (setting : Setting) (steps : List Step) → AreSteps setting steps → NoneOnItsWay 0 steps
none_before setting steps are n f small found =
    let nothing : flight_numbered steps n ≡ None = numbered_none setting steps n are (not_given (flight_count steps) n small) in
    absurd (never f (sym nothing ∙ found))
  where
    not_given : (count n : ℕ) → n ≤ 0 → is_given count n ≡ false
    not_given count n small = grind (arith, nat_tests, small)

    never : (f : Flight) → None ≡ Some f → ⊥
    never f is = cc

-- nor one more, where nothing is found under its number
pub none_next : (steps : List Step) (before : ℕ) → NoneOnItsWay before steps
    → ((f : Flight) → flight_numbered steps (before + 1) ≡ Some f → is_spent steps 0 f ≡ true) → NoneOnItsWay (before + 1) steps
none_next steps before none here n f small found =
    elim (cases_lt before n) [
      | inl past ↦ (let same : n ≡ before + 1 = omega (arith, past, small) in
          here f (ap (flight_numbered steps) (sym same) ∙ found))
      | inr upto ↦ none n f upto found
    ]

-- What the rules admit after the first is a raised event: no message of before is on its way.
use Rattle.std.specs.Prelude.{◌≡◌, ℕ, zero, suc, ◌+◌, ◌-◌, ◌<◌, ◌≤◌, Bool, true, false, ◌||◌, not, List, ◌∷◌, find, max, nat_eq, nat_lt, Option, Some, None, refl, if◌then◌else◌}
use Rattle.std.specs.List.{list_any}
use Rattle.std.specs.Option.{option_or}
use Rattle.std.proofs.Common.{arith, sym, ◌∙◌, ap, inl, inr}
use Rattle.std.proofs.lemmas.Bool.{eqb-true, cases_lt, ltb-true, lt-ltb, false_from_ne_true}
use Rattle.std.proofs.lemmas.Bool.Decides.{nat_tests}
use Rattle.std.proofs.lemmas.List.Folds.{find-append}
use Rattle.sd_num.specs.Lists.{map_or, same_number}
use Rattle.sd_device.specs.declared.msg.Flight.{Flight}
use Rattle.sd_sched.specs.declared.Event.{Event}
use Rattle.sd_sched.specs.declared.Event.TheVariants as event
use Rattle.sd_sched.specs.Events.{reference_of, message_of}
use Rattle.sd_history.specs.World.{Setting, latest_reference}
use Rattle.sd_history.specs.Steps.{Step, seen_of, flights, flight_count, flight_numbered}
use Rattle.sd_history.specs.Refusals.{was_used, was_swept, is_spent}
use Rattle.sd_history.specs.Accepted.{AreSteps}
use Rattle.sd_device.specs.msg.Books.{is_given}
use Rattle.sd_history.proofs.flights.Looks.{spent_at}
use Rattle.sd_history.specs.Admitted.{Admits}
use Rattle.sd_history.proofs.Among.{Among, found}
use Rattle.sd_history.proofs.Clear.{clear}
use Rattle.sd_history.proofs.Contained.{time_goes_on}
use Rattle.sd_history.proofs.flights.Numbers.{numbered_there}
use Rattle.sd_history.proofs.flights.Sending.{step_numbered}
use Rattle.sd_history.proofs.flights.Finds.{found_number, within}
use Rattle.sd_resume.specs.law.Shifts.{Shift, raised_event}
use Rattle.sd_resume.specs.law.Cuts.{NoneOnItsWay}
use Rattle.sd_resume.proofs.law.Steps.{sweeps, swept_step}
use Rattle.sd_resume.proofs.law.Losing.{any_by}

-- the event of the second whose raised one an event of the first is
abbrev pub lowered_event : Shift → Event → Event
lowered_event shift (event.Recv reference device counter message) = event.Recv reference device counter (message - shift.messages)
lowered_event shift (event.Lose reference message) = event.Lose reference (message - shift.messages)
lowered_event shift e = e

pub raised_again : (shift : Shift) (e : Event) → ((n : ℕ) → message_of e ≡ Some n → shift.messages ≤ n) → raised_event shift (lowered_event shift e) ≡ e
raised_again shift (event.Recv reference device counter message) named =
    ap (λ n. event.Recv reference device counter n) (back message shift.messages (named message refl))
  where
    back : (n by : ℕ) → by ≤ n → n - by + by ≡ n
    back n by le = omega (arith, le)
raised_again shift (event.Lose reference message) named = ap (λ n. event.Lose reference n) (back message shift.messages (named message refl))
  where
    back : (n by : ℕ) → by ≤ n → n - by + by ≡ n
    back n by le = omega (arith, le)
raised_again shift _ named = refl

-- A spent message stays spent.

spent_on : (s : Step) (earlier : List Step) (f : Flight) → latest_reference (seen_of earlier) ≤ reference_of s.seen.event
    → list_any (λ g. nat_eq g.number f.number) s.sent ≡ false → is_spent earlier 0 f ≡ true → is_spent (s ∷ earlier) 0 f ≡ true
spent_on s earlier f goes apart spent =
    go (same_number (message_of s.seen.event) f.number) (was_used earlier f.number) (sweeps f s) (was_swept earlier f) (was_swept (s ∷ earlier) f)
    (nat_lt f.last (max 0 (latest_reference (seen_of earlier)))) (nat_lt f.last (max 0 (reference_of s.seen.event))) (not f.reaches)
    (swept_step s earlier f ∙ ap (λ b. if b then false else sweeps f s || was_swept earlier f) apart)
    (older f.last (latest_reference (seen_of earlier)) (reference_of s.seen.event) goes) spent
  where
    older : (l a b : ℕ) → a ≤ b → nat_lt l (max 0 a) ≡ true → nat_lt l (max 0 b) ≡ true
    older l a b le is = let h : l < max 0 a = ltb-true l (max 0 a) is in lt-ltb l (max 0 b) (omega (arith, h, le))

    go : (m u k w w' o o' r : Bool) → w' ≡ (k || w) → (o ≡ true → o' ≡ true) → (u || w || o || r) ≡ true → ((m || u) || w' || o' || r) ≡ true
    go true u k w w' o o' r is on all = refl
    go false true k w w' o o' r is on all = refl
    go false false k true w' o o' r is on all = rw is (swept k)
      where
        swept : (k : Bool) → ((k || true) || o' || r) ≡ true
        swept true = refl
        swept false = refl
    go false false k false w' true o' r is on all = by w' o' (on refl)
      where
        by : (a b : Bool) → b ≡ true → (a || b || r) ≡ true
        by true b is' = refl
        by false true is' = refl
        by false false is' = cc
    go false false k false w' false o' true is on all = by w' o'
      where
        by : (a b : Bool) → (a || b || true) ≡ true
        by true b = refl
        by false true = refl
        by false false = refl
    go false false k false w' false o' false is on all = cc

pub stays_spent : (setting : Setting) (last : ℕ) (s : Step) (earlier : List Step) → AreSteps setting (s ∷ earlier) → last ≤ flight_count earlier
    → NoneOnItsWay last earlier → NoneOnItsWay last (s ∷ earlier)
stays_spent setting last s earlier are sent spent n f small found_ =
    go (find (λ g. nat_eq g.number n) s.sent) refl (sym (find-append (λ g. nat_eq g.number n) s.sent (flights earlier)) ∙ found_)
  where
    far : (g : Flight) → Among g s.sent → n < g.number
    far g among =
        let bounds = within (flight_count earlier + 1) s.sent g (step_numbered setting s earlier are) among in
        by n last (flight_count earlier) g.number small sent bounds.0
      where
        by : (n last count number : ℕ) → n ≤ last → last ≤ count → count + 1 ≤ number → n < number
        by n last count number a b c = omega (arith, a, b, c)

    never : (a b : ℕ) → a ≡ b → b < a → ⊥
    never a b same less = omega (arith, same, less)

    apart : (number : ℕ) → number ≡ n → list_any (λ g. nat_eq g.number number) s.sent ≡ false
    apart number same =
        false_from_ne_true (list_any (λ g. nat_eq g.number number) s.sent) (λ any.
        let g = any_by (λ (x : Flight). nat_eq x.number number) s.sent any in
        never g.0.number n (eqb-true g.0.number number g.2 ∙ same) (far g.0 g.1))

    go : (o : Option Flight) → find (λ g. nat_eq g.number n) s.sent ≡ o → option_or o (flight_numbered earlier n) ≡ Some f → is_spent (s ∷ earlier) 0 f ≡ true
    go None is here =
        spent_on s earlier f (time_goes_on setting earlier s.seen.event are.1) (apart f.number (found_number n (flights earlier) f here)) (spent n f small here)
    go (Some g) is here = absurd (never g.number n (found_number n s.sent g is) (far g (found (λ x. nat_eq x.number n) g s.sent is)))

-- An event that the rules admit names only later messages.
pub names_later : (setting : Setting) (steps : List Step) (last : ℕ) → NoneOnItsWay last steps → AreSteps setting steps → last ≤ flight_count steps
    → (e : Event) → Admits setting steps e
    → (n : ℕ) → message_of e ≡ Some n → last < n
names_later setting steps last spent are sent e admits n names = elim (cases_lt last n) [
  | inl less ↦ less
  | inr upto ↦ absurd (by upto)
]
  where
    unknown : (n count : ℕ) → (nat_eq n 0 || nat_lt count n) ≡ false → 1 ≤ n
    unknown zero count known = cc
    unknown (suc n) count known = omega arith

    at : (o : Option ℕ) (test : ℕ → Bool) → map_or o false test ≡ false → o ≡ Some n → test n ≡ false
    at o test none is = sym (ap (λ x. map_or x false test) is) ∙ none

    given : n ≤ last → 1 ≤ n → is_given (flight_count steps) n ≡ true
    given upto some = is (flight_count steps) upto some sent
      where
        is : (count : ℕ) → n ≤ last → 1 ≤ n → last ≤ count → is_given count n ≡ true
        is count a b c = grind (arith, nat_tests, a, b, c)

    spent_now : (f : Flight) → is_spent steps 0 f ≡ true → is_spent steps (reference_of e) f ≡ true
    spent_now f is = sure (is_spent steps 0 f) (nat_lt f.last (reference_of e)) (spent_at steps (reference_of e) f) is
      where
        sure : {x : Bool} (a b : Bool) → x ≡ (a || b) → a ≡ true → x ≡ true
        sure true b same is' = same
        sure false b same is' = cc

    by : n ≤ last → ⊥
    by upto =
        let some : 1 ≤ n =
        unknown n (flight_count steps) (at (message_of e) (λ m. nat_eq m 0 || nat_lt (flight_count steps) m)
        (clear setting steps e admits).message_known names) in
        let it = numbered_there setting steps n are (given upto some) in
        let rule : map_or (flight_numbered steps n) false (is_spent steps (reference_of e)) ≡ false =
        at (message_of e) (λ m. map_or (flight_numbered steps m) false (is_spent steps (reference_of e)))
        (clear setting steps e admits).message_open names in
        let yes_ : is_spent steps (reference_of e) it.0 ≡ true = spent_now it.0 (spent n it.0 upto it.1) in
        let no_ : is_spent steps (reference_of e) it.0 ≡ false = sym (ap (λ o. map_or o false (is_spent steps (reference_of e))) it.1) ∙ rule in
        differ (is_spent steps (reference_of e) it.0) yes_ no_
      where
        differ : (b : Bool) → b ≡ true → b ≡ false → ⊥
        differ true a c = cc
        differ false a c = cc

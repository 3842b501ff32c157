-- What holds of a list of steps holds of what is left behind its newest: chronicles, premises, and the times of moments.
use Rattle.std.specs.Prelude.{◌≡◌, ◌<◌, ◌≤◌, Bool, true, List, [], ◌∷◌, length, refl}
use Rattle.std.specs.List.{list_all}
use Rattle.std.proofs.Common.{arith, ap}
use Rattle.std.proofs.lemmas.Bool.{and_parts}
use Rattle.sd_sched.specs.declared.Event.{Event}
use Rattle.sd_sched.specs.Events.{reference_of}
use Rattle.sd_history.specs.World.{Setting, Seen, latest_reference}
use Rattle.sd_history.specs.Steps.{Step, seen_of}
use Rattle.sd_history.specs.Chronicle.{chronicle}
use Rattle.sd_history.specs.Admitted.{IsAdmitted}
use Rattle.sd_history.specs.Premises.{at_each, delay_holds, arrives_in_time}
use Rattle.sd_history.proofs.Contained.{admitted_time_goes_on}
use Rattle.sd_safety.specs.messages.Moments.{Tail, whole, behind, IsChronicle, Moment, upto, when, IsIn, IsBefore}

pub tail_trans : {A : Type 0} {xs ys zs : List A} → Tail xs ys → Tail ys zs → Tail xs zs
tail_trans t whole = t
tail_trans t (behind u) = behind (tail_trans t u)

pub tail_length : {A : Type 0} {xs ys : List A} → Tail xs ys → length xs ≤ length ys
tail_length whole = omega arith
tail_length (behind {xs = zs} t) = let shorter = tail_length t in omega (arith, shorter)

-- the elements behind an element
pub rest_of : {A : Type 0} {x : A} {xs ys : List A} → Tail (x ∷ xs) ys → Tail xs ys
rest_of whole = behind whole
rest_of (behind t) = behind (rest_of t)

pub tail_chronicle : (setting : Setting) {older steps : List Step} → Tail older steps → IsChronicle setting steps → IsChronicle setting older
tail_chronicle setting whole is = is
tail_chronicle setting (behind t) is = tail_chronicle setting t is.0

-- the steps of a history are a chronicle
pub history_chronicle : (setting : Setting) (history : List Event) → IsAdmitted setting history → IsChronicle setting (chronicle setting history)
history_chronicle setting [] is = tt
history_chronicle setting (e ∷ earlier) is = (history_chronicle setting earlier is.0, refl, is.1)

-- a test of each step, and a test of each with those before it
pub tail_all : (test : Seen → Bool) {older steps : List Step} → Tail older steps → list_all test (seen_of steps) ≡ true → list_all test (seen_of older) ≡ true
tail_all test whole all = all
tail_all test (behind {x = s} {xs = xs} t) all = tail_all test t ((and_parts (test s.seen) (list_all test (seen_of xs)) all).1)

pub tail_each : (test : Seen → List Seen → Bool) {older steps : List Step} → Tail older steps → at_each test (seen_of steps) ≡ true
    → at_each test (seen_of older) ≡ true
tail_each test whole all = all
tail_each test (behind {x = s} {xs = xs} t) all = tail_each test t ((and_parts (at_each test (seen_of xs)) (test s.seen (seen_of xs)) all).0)

pub moment_arrives : (setting : Setting) (p : Moment) (steps : List Step) → IsIn p steps → delay_holds setting (seen_of steps) ≡ true
    → arrives_in_time setting p.step.seen ≡ true
moment_arrives setting p steps t holds =
    (and_parts (arrives_in_time setting p.step.seen) (list_all (arrives_in_time setting) (seen_of p.earlier)) (tail_all (arrives_in_time setting) t holds)).0

-- Times never fall.

pub step_time : (setting : Setting) (s : Step) (earlier : List Step) → IsChronicle setting (s ∷ earlier)
    → latest_reference (seen_of earlier) ≤ reference_of s.seen.event
step_time setting s earlier is = admitted_time_goes_on setting earlier s.seen.event is.2

-- no moment is later than the newest step
pub no_later : (setting : Setting) (p : Moment) (steps : List Step) → IsChronicle setting steps → IsIn p steps → when p ≤ latest_reference (seen_of steps)
no_later setting p [] is t = elim t [ ]
no_later setting p (s ∷ earlier) is whole = omega arith
no_later setting p (s ∷ earlier) is (behind t) =
    let before = no_later setting p earlier is.0 t in
    let goes = step_time setting s earlier is in
    omega (arith, before, goes)

pub before_is_earlier : (setting : Setting) (p q : Moment) → IsChronicle setting (upto q) → IsBefore p q → when p ≤ when q
before_is_earlier setting p q is t =
    let before = no_later setting p q.earlier is.0 t in
    let goes = step_time setting q.step q.earlier is in
    omega (arith, before, goes)

-- Two moments of one list: the first comes before, they are one, or it comes after.
pub data Order (p q : Moment) : Type 0 where
  before : IsBefore p q → Order p q
  same : upto p ≡ upto q → Order p q
  after : IsBefore q p → Order p q

pub ordered : (steps : List Step) (p q : Moment) → IsIn p steps → IsIn q steps → Order p q
ordered [] p q t u = elim t [ ]
ordered (s ∷ earlier) p q whole whole = same refl
ordered (s ∷ earlier) p q whole (behind u) = after u
ordered (s ∷ earlier) p q (behind t) whole = before t
ordered (s ∷ earlier) p q (behind t) (behind u) = ordered earlier p q t u

by_time : (setting : Setting) (p q : Moment) → IsChronicle setting (upto p) → when p < when q → Order p q → IsBefore p q
by_time setting p q is less (before t) = t
by_time setting p q is less (same equal) = let times : when p ≡ when q = ap (λ steps. latest_reference (seen_of steps)) equal in
    absurd (omega (arith, less, times))
by_time setting p q is less (after t) = let later = before_is_earlier setting q p is t in absurd (omega (arith, less, later))

-- of two moments of a chronicle the one with the lesser reference comes first
pub earlier_is_before : (setting : Setting) (steps : List Step) (p q : Moment) → IsChronicle setting steps → IsIn p steps → IsIn q steps → when p < when q
    → IsBefore p q
earlier_is_before setting steps p q is t u less = by_time setting p q (tail_chronicle setting t is) less (ordered steps p q t u)

-- Flights of a chronicle are numbered on: no two of them have one number, and none is numbered past how many there are.
use Rattle.std.specs.Prelude.{◌≡◌, ℕ, ◌+◌, ◌<◌, ◌≤◌, List, [], ◌∷◌, ◌++◌, Option, Some, None, ◌⊎◌, refl}
use Rattle.std.proofs.Common.{arith, sym, ap, subst, inl, inr}
use Rattle.sd_num.specs.Lists.{map_or}
use Rattle.sd_device.specs.declared.msg.Flight.{Flight}
use Rattle.sd_history.specs.World.{Setting}
use Rattle.sd_history.specs.Steps.{changed, Told, Answers, Step, flights, flight_count, flights_by, act_by}
use Rattle.sd_history.specs.Chronicle.{told_by}
use Rattle.sd_history.proofs.Among.{Among, first, later, either_side, on_right}
use Rattle.sd_sched.specs.Events.{reference_of}
use Rattle.sd_history.specs.flights.Flights.{AreNumberedOn}
use Rattle.sd_history.proofs.flights.Finds.{within}
use Rattle.sd_history.proofs.flights.Sending.{numbered_by, counted}
use Rattle.sd_safety.specs.messages.Moments.{whole, behind, IsChronicle, Moment, upto, IsIn}

numbered_of : (setting : Setting) (steps : List Step) (r : ℕ) (told : Told) (o : Option ℕ) (a : Option Answers)
    → AreNumberedOn (flight_count steps + 1) (map_or o [] (λ d. map_or a [] (λ b. flights_by setting steps r d b.epoch told.effect)))
numbered_of setting steps r told None a = tt
numbered_of setting steps r told (Some d) None = tt
numbered_of setting steps r told (Some d) (Some b) = numbered_by setting steps r d b.epoch told.effect

pub step_numbered : (setting : Setting) (s : Step) (earlier : List Step) → IsChronicle setting (s ∷ earlier) → AreNumberedOn (flight_count earlier + 1) s.sent
step_numbered setting s earlier is =
    let act = act_by setting earlier s.seen.event in
    let told = told_by earlier act in
    subst (AreNumberedOn (flight_count earlier + 1)) (sym (ap (λ x. x.sent) is.1))
    (numbered_of setting earlier (reference_of s.seen.event) told (changed act) told.answers)

one_number : (n : ℕ) (fs : List Flight) (f g : Flight) → AreNumberedOn n fs → Among f fs → Among g fs → f.number ≡ g.number → f ≡ g
one_number n [] f g is a b same = elim a [ ]
one_number n (x ∷ fs) f g is first first same = refl
one_number n (x ∷ fs) f g is first (later b) same = let past = within (n + 1) fs g is.1 b in absurd (omega (arith, past.0, is.0, same))
one_number n (x ∷ fs) f g is (later a) first same = let past = within (n + 1) fs f is.1 a in absurd (omega (arith, past.0, is.0, same))
one_number n (x ∷ fs) f g is (later a) (later b) same = one_number (n + 1) fs f g is.1 a b same

-- the numbers of all flights
pub numbers_within : (setting : Setting) (steps : List Step) (f : Flight) → IsChronicle setting steps → Among f (flights steps) → f.number ≤ flight_count steps
numbers_within setting [] f is a = elim a [ ]
numbers_within setting (s ∷ earlier) f is a = by_side (either_side s.sent (flights earlier) a) (λ b. numbers_within setting earlier f is.0 b)
  where
    by_side : Among f s.sent ⊎ Among f (flights earlier) → (Among f (flights earlier) → f.number ≤ flight_count earlier) → f.number ≤ flight_count (s ∷ earlier)
    by_side (inl b) rest = let here = within (flight_count earlier + 1) s.sent f (step_numbered setting s earlier is) b in
        omega (arith, here.1, counted s earlier)
    by_side (inr b) rest = let before = rest b in omega (arith, before, counted s earlier)

-- what a step sends has greater numbers than what was sent before
pub newly_numbered : (setting : Setting) (p : Moment) (f : Flight) → IsChronicle setting (upto p) → Among f p.step.sent → flight_count p.earlier < f.number
newly_numbered setting p f is a = let here = within (flight_count p.earlier + 1) p.step.sent f (step_numbered setting p.step p.earlier is) a in
    omega (arith, here.0)

pub one_flight : (setting : Setting) (steps : List Step) (f g : Flight) → IsChronicle setting steps → Among f (flights steps) → Among g (flights steps)
    → f.number ≡ g.number → f ≡ g
one_flight setting [] f g is a b same = elim a [ ]
one_flight setting (s ∷ earlier) f g is a b same =
    by_sides (either_side s.sent (flights earlier) a) (either_side s.sent (flights earlier) b) (λ x y. one_flight setting earlier f g is.0 x y same)
  where
    here : Moment
    here = record { step = s; earlier = earlier }

    by_sides : Among f s.sent ⊎ Among f (flights earlier) → Among g s.sent ⊎ Among g (flights earlier)
        → (Among f (flights earlier) → Among g (flights earlier) → f ≡ g) → f ≡ g
    by_sides (inl x) (inl y) rest = one_number (flight_count earlier + 1) s.sent f g (step_numbered setting s earlier is) x y same
    by_sides (inl x) (inr y) rest =
        let new = newly_numbered setting (record { step = s; earlier = earlier }) f is x in
        let old = numbers_within setting earlier g is.0 y in
        absurd (omega (arith, new, old, same))
    by_sides (inr x) (inl y) rest =
        let new = newly_numbered setting (record { step = s; earlier = earlier }) g is y in
        let old = numbers_within setting earlier f is.0 x in
        absurd (omega (arith, new, old, same))
    by_sides (inr x) (inr y) rest = rest x y

-- what was sent at a moment was sent in every list that has it
pub sent_in : (p : Moment) (steps : List Step) (f : Flight) → IsIn p steps → Among f (flights (upto p)) → Among f (flights steps)
sent_in p steps f whole a = a
sent_in p (s ∷ steps) f (behind t) a = on_right s.sent (sent_in p steps f t a)

pub on_left : {A : Type 0} {x : A} (xs ys : List A) → Among x xs → Among x (xs ++ ys)
on_left xs ys (first {xs = zs}) = first
on_left xs ys (later {y = y} {xs = zs} a) = later (on_left zs ys a)

pub sent_at_moment : (p : Moment) (steps : List Step) (f : Flight) → IsIn p steps → Among f p.step.sent → Among f (flights steps)
sent_at_moment p steps f t a = sent_in p steps f t (on_left p.step.sent (flights p.earlier) a)

-- What a step sends: one flight over each end of the device that it calls, numbered on from those that were sent before.
use Rattle.std.specs.Prelude.{◌≡◌, ℕ, ◌+◌, ◌*◌, ◌≤◌, List, [], ◌∷◌, length, Option, Some, None, refl}
use Rattle.std.proofs.Common.{arith, sym, ap, subst}
use Rattle.std.proofs.lemmas.List.Sums.{sum_by-cons}
use Rattle.sd_num.specs.Lists.{map_or}
use Rattle.sd_plan.specs.topo.Network.{delay_of}
use Rattle.sd_plan.specs.declared.End.{End}
use Rattle.sd_device.specs.declared.msg.Message.{Message}
use Rattle.sd_device.specs.declared.msg.Flight.{Flight}
use Rattle.sd_device.specs.declared.Effect.{Effect}
use Rattle.sd_device.specs.declared.Effect.TheVariants.{Quiet, Send}
use Rattle.sd_sched.specs.Events.{reference_of}
use Rattle.sd_history.specs.World.{Setting}
use Rattle.sd_history.specs.Steps.{changed, Answers, Step, flight_count, flight_to, flights_to, ends_at, flights_by, flights_of, act_by}
use Rattle.sd_history.specs.Accepted.{AreSteps}
use Rattle.sd_history.proofs.Among.{Among, first, later}
use Rattle.sd_history.specs.flights.Flights.{AreNumberedOn}

-- Numbers

pub numbered_to : (setting : Setting) (steps : List Step) (r d : ℕ) (m : Message) (n : ℕ) (ends : List End)
    → AreNumberedOn n (flights_to setting steps r d m n ends)
numbered_to setting steps r d m n [] = tt
numbered_to setting steps r d m n (e ∷ ends) = (refl, numbered_to setting steps r d m (n + 1) ends)

pub numbered_by : (setting : Setting) (steps : List Step) (r d epoch : ℕ) (effect : Effect)
    → AreNumberedOn (flight_count steps + 1) (flights_by setting steps r d epoch effect)
numbered_by setting steps r d epoch Quiet = tt
numbered_by setting steps r d epoch (Send m) = numbered_to setting steps r d m (flight_count steps + 1) (ends_at setting steps epoch d)

numbered_of : (setting : Setting) (steps : List Step) (r : ℕ) (effect : Effect) (o : Option ℕ) (a : Option Answers)
    → AreNumberedOn (flight_count steps + 1) (map_or o [] (λ d. map_or a [] (λ b. flights_by setting steps r d b.epoch effect)))
numbered_of setting steps r effect None a = tt
numbered_of setting steps r effect (Some d) None = tt
numbered_of setting steps r effect (Some d) (Some b) = numbered_by setting steps r d b.epoch effect

-- what a step sends
pub sent_is : (setting : Setting) (s : Step) (earlier : List Step) → AreSteps setting (s ∷ earlier)
    → s.sent ≡ flights_of setting earlier (reference_of s.seen.event) (act_by setting earlier s.seen.event) s.told
sent_is setting s earlier is = ap (λ (x : Step). x.sent) is.2

pub step_numbered : (setting : Setting) (s : Step) (earlier : List Step) → AreSteps setting (s ∷ earlier) → AreNumberedOn (flight_count earlier + 1) s.sent
step_numbered setting s earlier is =
    subst (AreNumberedOn (flight_count earlier + 1)) (sym (sent_is setting s earlier is))
    (numbered_of setting earlier (reference_of s.seen.event) s.told.effect (changed (act_by setting earlier s.seen.event)) s.told.answers)

pub counted : (s : Step) (earlier : List Step) → flight_count (s ∷ earlier) ≡ length s.sent + flight_count earlier
counted s earlier = sum_by-cons (λ x. length x.sent) s earlier

-- Over which end

-- a flight of a message over one of these ends
pub record IsOver (setting : Setting) (steps : List Step) (r d : ℕ) (m : Message) (ends : List End) (f : Flight) : Type 0 where
  pub end_ : End
  pub number : ℕ
  pub among : Among end_ ends
  pub is : f ≡ flight_to setting steps r d m number end_

pub over_ends : (setting : Setting) (steps : List Step) (r d : ℕ) (m : Message) (n : ℕ) (ends : List End) (f : Flight)
    → Among f (flights_to setting steps r d m n ends) → IsOver setting steps r d m ends f
over_ends setting steps r d m n [] f a = elim a [ ]
over_ends setting steps r d m n (e ∷ ends) f first = record { end_ = e; number = n; among = first; is = refl }
over_ends setting steps r d m n (e ∷ ends) f (later a) =
    let rest = over_ends setting steps r d m (n + 1) ends f a in
    record { end_ = rest.end_; number = rest.number; among = later rest.among; is = rest.is }

-- the flight was sent by the device that the step calls, over an end that it has in the plan of which it then is
pub record WasSent (setting : Setting) (s : Step) (earlier : List Step) (f : Flight) : Type 0 where
  pub device : ℕ
  pub answers : Answers
  pub message : Message
  pub calls : changed (act_by setting earlier s.seen.event) ≡ Some device
  pub tells : s.told.answers ≡ Some answers
  pub sends : s.told.effect ≡ Send message
  pub over : IsOver setting earlier (reference_of s.seen.event) device message (ends_at setting earlier answers.epoch device) f

module _ (setting : Setting) (s : Step) (earlier : List Step) (f : Flight) where
  by_effect : (d : ℕ) (b : Answers) (effect : Effect) → changed (act_by setting earlier s.seen.event) ≡ Some d → s.told.answers ≡ Some b
      → s.told.effect ≡ effect
      → Among f (flights_by setting earlier (reference_of s.seen.event) d b.epoch effect) → WasSent setting s earlier f
  by_effect d b Quiet calls tells sends a = elim a [ ]
  by_effect d b (Send m) calls tells sends a =
      record {
        device = d;
        answers = b;
        message = m;
        calls = calls;
        tells = tells;
        sends = sends;
        over = over_ends setting earlier (reference_of s.seen.event) d m (flight_count earlier + 1) (ends_at setting earlier b.epoch d) f a;
      }

  by_answers : (o : Option ℕ) (a : Option Answers) → changed (act_by setting earlier s.seen.event) ≡ o → s.told.answers ≡ a
      → Among f (map_or o [] (λ d. map_or a [] (λ b. flights_by setting earlier (reference_of s.seen.event) d b.epoch s.told.effect)))
      → WasSent setting s earlier f
  by_answers None a calls tells among = elim among [ ]
  by_answers (Some d) None calls tells among = elim among [ ]
  by_answers (Some d) (Some b) calls tells among = by_effect d b s.told.effect calls tells refl among

  pub was_sent : AreSteps setting (s ∷ earlier) → Among f s.sent → WasSent setting s earlier f
  was_sent is a =
      by_answers (changed (act_by setting earlier s.seen.event)) s.told.answers refl refl
      (subst (λ fs. Among f fs) (sent_is setting s earlier is) a)

  -- it is kept at the reference at which it was sent
  pub ends_later : AreSteps setting (s ∷ earlier) → Among f s.sent → reference_of s.seen.event ≤ f.last
  ends_later is a =
      let sent : WasSent setting s earlier f = was_sent is a in
      let last : f.last ≡ reference_of s.seen.event + 2 * (delay_of setting.net sent.over.end_.link sent.over.end_.device).max =
      ap (λ (g : Flight). g.last) sent.over.is in
      omega (arith, last)

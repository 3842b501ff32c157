-- The parts of a step, put together.
use Rattle.std.specs.Prelude.{◌≡◌, ℕ, ◌+◌, ◌≤◌, ◌&&◌, not, List, [], ◌++◌, length, filter, Option, Some, None, refl, if◌then◌else◌}
use Rattle.std.proofs.Common.{arith, ◌∙◌, ap}
use Rattle.sd_num.specs.Lists.{map_or}
use Rattle.sd_plan.specs.topo.Network.{Network}
use Rattle.sd_device.specs.declared.msg.Flight.{Flight}
use Rattle.sd_device.specs.msg.Books.{Book, AreGiven}
use Rattle.sd_device.specs.declared.Effect.{Effect}
use Rattle.sd_device.specs.declared.Effect.TheVariants.{Quiet, Send}
use Rattle.sd_sched.specs.declared.Event.{Event}
use Rattle.sd_sched.specs.Events.{reference_of, device_of}
use Rattle.sd_history.specs.Things.{failure_of}
use Rattle.sd_history.specs.flights.Flights.{without_swept}
use Rattle.sd_world.specs.declared.membership.AnswerSummary.{AnswerSummary}
use Rattle.sd_world.specs.membership.Memberships as memberships
use Rattle.sd_world.specs.membership.Memberships.{ends_below, registers_after}
use Rattle.sd_fleet.specs.declared.Reply.{Reply}
use Rattle.sd_fleet.specs.Registers.{Registers, kept}
use Rattle.sd_fleet.specs.Causes.{refusal_in}
use Rattle.sd_fleet.specs.Doing.{IsReplyTo}
use Rattle.sd_fleet.specs.Room.{most_sent_in}
use Rattle.sd_fleet.specs.Sending.{flights_over, sent_by, sent_in}
use Rattle.sd_fleet.specs.Sound.{IsSound}
use Rattle.sd_fleet.specs.Stepping.{delivered, closed_if_can, IsAfter, is_new_at, is_new_named, entered_in}
use Rattle.sd_fleet.proofs.FabricKeeping.{sent_room}

-- what is sent goes by the last number of a book alone
same_sent : (net : Network) (membership : memberships.Registers) (a b : Book) (e : Event) (reply : Reply) → a.last ≡ b.last
    → sent_in (kept net membership a) e reply ≡ sent_in (kept net membership b) e reply
same_sent net membership a b e reply same = by (device_of e) reply.answers reply.effect
  where
    by : (o : Option ℕ) (x : Option AnswerSummary) (effect : Effect)
        → ◌≡◌ {A = List Flight} (map_or o [] (λ d. map_or x [] (λ (y : AnswerSummary). sent_by (kept net membership a) (reference_of e) d y.epoch effect)))
        (map_or o [] (λ d. map_or x [] (λ (y : AnswerSummary). sent_by (kept net membership b) (reference_of e) d y.epoch effect)))
    by None x effect = refl
    by (Some d) None effect = refl
    by (Some d) (Some y) Quiet = refl
    by (Some d) (Some y) (Send m) =
        ap (λ (n : ℕ). flights_over net membership.world (record { reference = reference_of e; sender = d; message = m }) (n + 1)
        (ends_below membership y.epoch d)) same

-- a book whose flights were delivered is as sound
pub sound_delivered : (r : Registers) (mid : Book) → IsSound r → AreGiven mid → mid.last ≡ r.book.last → mid.size ≡ r.book.size
    → IsSound (kept r.net r.membership mid)
sound_delivered r mid sound given last size =
    record {
      net = sound.net;
      tables = sound.tables;
      membership = sound.membership;
      answers = sound.answers;
      links = sound.links;
      events = sound.events;
      sent = omega (arith, last, sound.sent);
      given = given;
      size = size ∙ sound.size;
    }

pub sent_same : (r : Registers) (mid : Book) (e : Event) (reply : Reply) → mid.last ≡ r.book.last
    → sent_in (kept r.net r.membership mid) e reply ≡ sent_in r e reply
sent_same r mid e reply last = same_sent r.net r.membership mid r.book e reply last

-- what the parts leave
pub record Parts (old : Registers) (e : Event) (reply : Reply) (mid sent swept : Book) (observed closed : memberships.Registers) : Type 0 where
  pub delivers : mid.flights ≡ delivered e old.book.flights
  pub delivers_last : mid.last ≡ old.book.last
  pub delivers_size : mid.size ≡ old.book.size
  pub sends : sent.flights ≡ mid.flights ++ filter (λ f. f.reaches) (sent_in (kept old.net old.membership mid) e reply)
  pub sends_last : sent.last ≡ mid.last + length (sent_in (kept old.net old.membership mid) e reply)
  pub sends_size : sent.size ≡ mid.size
  pub sweeps : swept.flights ≡ without_swept (failure_of e) sent.flights
  pub sweeps_last : swept.last ≡ sent.last
  pub sweeps_size : swept.size ≡ sent.size
  pub observes : observed ≡ registers_after old.membership e reply.answers
  pub closes : closed ≡ closed_if_can observed

pub is_after : (old : Registers) (e : Event) (reply : Reply) (mid sent swept : Book) (observed closed : memberships.Registers)
    → Parts old e reply mid sent swept observed closed → IsAfter old e reply (kept old.net closed swept)
is_after old e reply mid sent swept observed closed p =
    let same : sent_in (kept old.net old.membership mid) e reply ≡ sent_in old e reply = sent_same old mid e reply p.delivers_last in
    let count : length (sent_in (kept old.net old.membership mid) e reply) ≡ length (sent_in old e reply) = ap length same in
    record {
      net = refl;
      membership = p.closes ∙ ap closed_if_can p.observes;
      flights =
          p.sweeps
          ∙ ap (without_swept (failure_of e))
          (p.sends
          ∙ ap (λ fs. fs ++ filter (λ (f : Flight). f.reaches) (sent_in (kept old.net old.membership mid) e reply)) p.delivers
          ∙ ap (λ fs. delivered e old.book.flights ++ filter (λ (f : Flight). f.reaches) fs) same);
      last = omega (arith, p.sweeps_last, p.sends_last, p.delivers_last, count);
      size = p.sweeps_size ∙ p.sends_size ∙ p.delivers_size;
    }

-- the device that enters the staged plan
pub entered_by : (before after : memberships.Registers) (e : Event)
    → (if is_new_named after (device_of e) && not (is_new_named before (device_of e)) then device_of e else None) ≡ entered_in before after e
entered_by before after e = by (device_of e)
  where
    by : (o : Option ℕ)
        → (if is_new_named after o && not (is_new_named before o) then o else None)
        ≡ map_or o None (λ d. if is_new_at after d && not (is_new_at before d) then Some d else None)
    by None = refl
    by (Some d) = refl

-- there is room for what is sent
pub room_after : (r : Registers) (mid : Book) (e : Event) (reply : Reply) → refusal_in r e ≡ None → IsReplyTo e reply → most_sent_in r e ≤ r.book.room
    → mid.last ≡ r.book.last → r.book.room ≤ mid.room
    → length (sent_in (kept r.net r.membership mid) e reply) ≤ mid.room
room_after r mid e reply accepted tells room last grows =
    let same : length (sent_in (kept r.net r.membership mid) e reply) ≡ length (sent_in r e reply) = ap length (sent_same r mid e reply last) in
    let most = sent_room r e reply accepted tells in
    omega arith

-- A history of a calm time goes on: a live device may tick, and receive what is due first.
use Rattle.std.specs.Prelude.{◌≡◌, ℕ, ◌+◌, ◌-◌, ◌^◌, ◌<◌, ◌≤◌, Bool, true, false, List, ◌∷◌, length, max, nat_eq, nat_le, nat_lt, Option, Some, None, refl, if◌then◌else◌}
use Rattle.std.proofs.Common.{ap, ◌∙◌, arith}
use Rattle.std.proofs.lemmas.Bool.{and_from, or_from, le-leb, le-ltb, ne_eqb, eq-eqb}
use Rattle.sd_num.specs.Lists.{map_or}
use Rattle.sd_plan.specs.topo.Network.{Network, delay_of, link_of}
use Rattle.sd_plan.specs.topo.Limits.{IsNetwork}
use Rattle.sd_plan.specs.declared.topo.Delay.{Delay}
use Rattle.sd_plan.specs.declared.topo.Thing.{Thing}
use Rattle.sd_plan.specs.domain.Domains.{domains}
use Rattle.sd_plan.specs.declared.domain.DomainId.{DomainId}
use Rattle.sd_plan.specs.declared.Plan.{Plan}
use Rattle.sd_plan.proofs.topo.Laws.{link_law}
use Rattle.sd_device.specs.declared.msg.Flight.{Flight}
use Rattle.sd_sched.specs.declared.Event.{Event}
use Rattle.sd_sched.specs.declared.Event.TheVariants as event
use Rattle.sd_history.specs.World.{Setting, latest_reference, alone}
use Rattle.sd_history.specs.Steps.{Step, seen_of, flights, flight_numbered, flight_count}
use Rattle.sd_history.specs.Chronicle.{next_step, chronicle, IsHistory}
use Rattle.sd_history.specs.Accepted.{AreSteps}
use Rattle.sd_history.specs.Refusals.{was_used, is_spent, refusal, unknown_message, spent_message, wrong_device}
use Rattle.sd_history.specs.Premises.{arrives_in_time, is_in_time, all_hold}
use Rattle.sd_history.proofs.Admitted.{length-chronicle}
use Rattle.sd_history.proofs.Among.{Among}
use Rattle.sd_history.proofs.Accepting.{history_is_accepted}
use Rattle.sd_history.proofs.Parts.{premises_hold}
use Rattle.sd_history.proofs.flights.Numbers.{numbers_within, numbered_itself}
use Rattle.sd_history.proofs.flights.Places.{flights_of_network}
use Rattle.sd_beside.specs.needed.Alone.{fails_only}
use Rattle.sd_beside.proofs.needed.Worlds.{IsCalm, ticks, receives, is_live, World, OnTime, world_goes_on}
use Rattle.sd_beside.proofs.needed.Allowed.{allowed}
use Rattle.sd_beside.proofs.needed.Air.{FlightLaw, Air, NoneDue, Receives, nothing, one, loss_held, air_goes_on}

-- a history in which some things failed at first, the other members started, and then devices only ticked and received, all in time
pub record Good (net : Network) (plan : Plan) (dom : DomainId) (down : Thing → Bool) (history : List Event) (t : ℕ) : Type 0 where
  pub is : IsHistory (alone net plan) history
  pub world : World net plan dom down (seen_of (chronicle (alone net plan) history)) t
  pub air : Air net plan down (chronicle (alone net plan) history) t
  pub failures : fails_only down history ≡ true

-- no premise is broken in it
pub premises_held : (net : Network) (plan : Plan) (dom : DomainId) (down : Thing → Bool) (history : List Event) (t : ℕ) → Good net plan dom down history t
    → all_hold (alone net plan) (seen_of (chronicle (alone net plan) history)) ≡ true
premises_held net plan dom down history t good =
    premises_hold (alone net plan) (seen_of (chronicle (alone net plan) history))
    (record {
      start = good.world.start_held;
      drift = good.world.drift_held;
      delay = good.world.delay_held;
      tick = good.world.tick_held;
      loss = loss_held net plan down (chronicle (alone net plan) history) t good.air;
      domain = good.world.domain_held;
      renew = good.world.renew_held;
    })

-- bounds of delays are in order
abbrev IsInOrder : Delay → Type 0
IsInOrder delay = delay.min ≤ delay.max

delay_in_order : (net : Network) (l d : ℕ) → IsNetwork net → l < length net.links → (delay_of net l d).min ≤ (delay_of net l d).max
delay_in_order net l d law within = both (nat_eq d (link_of net l).end_b)
  where
    both : (b : Bool) → IsInOrder (if b then record { min = (link_of net l).min; max = (link_of net l).max }
        else record { min = (link_of net l).back_min; max = (link_of net l).back_max })
    both true = (link_law net l law within).bounds.0
    both false = (link_law net l law within).back_bounds.0

module _ (net : Network) (plan : Plan) (dom : DomainId) (down : Thing → Bool) (law : IsNetwork net) (among : Among dom (domains net))
    (history : List Event) (t : ℕ) (good : Good net plan dom down history t) (room : length history < 2 ^ 26) where
  abbrev setting : Setting
  setting = alone net plan

  abbrev steps : List Step
  steps = chronicle setting history

  few : length steps < 2 ^ 26
  few = let same = length-chronicle setting history in omega (arith, room, same)

  none_fails : (e : Event) (r d : ℕ) → IsCalm e r d → fails_only down (e ∷ history) ≡ true
  none_fails e r d ticks = good.failures
  none_fails e r d (receives n) = good.failures

  stays_good : (e : Event) (r d : ℕ) → IsCalm e r d → Receives steps e → t ≤ r → OnTime net plan down (seen_of steps) r → NoneDue steps r
      → arrives_in_time setting (next_step setting steps e).seen ≡ true
      → refusal setting steps e ≡ None → Good net plan dom down (e ∷ history) r
  stays_good e r d calm receives_ later_ on_time none arrives accepted =
      let is : IsHistory setting (e ∷ history) = (good.is, accepted) in
      record {
        is = is;
        world = world_goes_on net plan dom down steps t good.world e r d calm among later_ on_time arrives;
        air = air_goes_on net plan dom down steps t good.world e r d calm receives_ (history_is_accepted setting (e ∷ history) is) later_ none good.air;
        failures = none_fails e r d calm;
      }

  -- a tick
  pub tick_goes : (r d : ℕ) → is_live net plan down d ≡ true → t ≤ r → OnTime net plan down (seen_of steps) r → NoneDue steps r
      → Good net plan dom down (event.Tick r d r ∷ history) r
  tick_goes r d live later_ on_time none =
      stays_good (event.Tick r d r) r d ticks nothing later_ on_time none refl
      (allowed net plan dom down steps t good.world (event.Tick r d r) r d ticks live later_ few refl refl refl)

  latest_is : {due last : ℕ} → due ≤ last → t ≤ due → max due (latest_reference (seen_of steps)) ≤ last
  latest_is below_ later_ = let is = good.world.latest in omega (arith, is, below_, later_)

  -- its age is the greatest of its link
  timely : (f : Flight) → f.due ≡ f.sent_at + (delay_of net f.link f.receiver).max
      → (delay_of net f.link f.receiver).min ≤ (delay_of net f.link f.receiver).max → is_in_time setting f.due f ≡ true
  timely f due ordered =
      and_from (nat_le (delay_of net f.link f.receiver).min (f.due - f.sent_at)) (nat_le (f.due - f.sent_at) (delay_of net f.link f.receiver).max)
      (le-leb (delay_of net f.link f.receiver).min (f.due - f.sent_at) (omega (arith, due, ordered)))
      (le-leb (f.due - f.sent_at) (delay_of net f.link f.receiver).max (omega (arith, due)))

  -- the receipt of a flight that is on its way, where no other is due before
  pub receipt_goes : (f : Flight) → Among f (flights steps) → f.reaches ≡ true → was_used steps f.number ≡ false
      → OnTime net plan down (seen_of steps) f.due → NoneDue steps f.due
      → Good net plan dom down (event.Recv f.due f.receiver f.due f.number ∷ history) f.due
  receipt_goes f a reaches unused on_time none =
      let e : Event = event.Recv f.due f.receiver f.due f.number in
      let are : AreSteps setting steps = history_is_accepted setting history good.is in
      let laws : FlightLaw net plan down steps t f = good.air.law f a in
      let later_ : t ≤ f.due = laws.waits reaches unused in
      let found : flight_numbered steps f.number ≡ Some f = numbered_itself setting steps f are a in
      let numbers = numbers_within setting steps f are a in
      let known : unknown_message steps e ≡ false =
      or_from (nat_eq f.number 0) (nat_lt (flight_count steps) f.number) (ne_eqb f.number 0 (λ same. omega (arith, same, numbers.0)))
      (le-ltb (flight_count steps) f.number numbers.1) in
      let spent : spent_message steps e ≡ false =
      ap (λ (o : Option Flight). map_or o false (is_spent steps f.due)) found
      ∙ rw (unused, laws.unswept, reaches, le-ltb f.last (max f.due (latest_reference (seen_of steps))) (latest_is laws.last later_)) refl in
      let ordered : (delay_of net f.link f.receiver).min ≤ (delay_of net f.link f.receiver).max =
      delay_in_order net f.link f.receiver law (flights_of_network setting steps f are a).link in
      let right : wrong_device steps e ≡ false = rw (found, eq-eqb f.receiver f.receiver refl) refl in
      let arrives : arrives_in_time setting (next_step setting steps e).seen ≡ true =
      ap (λ (o : Option Flight). map_or o true (is_in_time setting f.due)) found ∙ timely f laws.due ordered in
      stays_good e f.due f.receiver (receives f.number) (one f found refl) later_ on_time none arrives
      (allowed net plan dom down steps t good.world e f.due f.receiver (receives f.number) (laws.live reaches) later_ few known spent right)

-- In a calm time a live device may tick, and receive what is on its way to it.
use Rattle.std.specs.Prelude.{◌≡◌, ℕ, ◌^◌, ◌<◌, ◌≤◌, Bool, true, false, ◌&&◌, not, List, [], ◌∷◌, length, find, nat_lt, None, option_map, refl}
use Rattle.std.proofs.Common.{arith}
use Rattle.std.proofs.lemmas.Bool.{and_parts, not-true, ltb-true, lt-leb, le-ltb}
use Rattle.std.proofs.lemmas.List.{length-map}
use Rattle.sd_plan.specs.topo.Network.{Network}
use Rattle.sd_plan.specs.declared.topo.Thing.{Thing}
use Rattle.sd_plan.specs.declared.topo.Thing.TheVariants as thing
use Rattle.sd_plan.specs.declared.domain.DomainId.{DomainId}
use Rattle.sd_plan.specs.declared.Plan.{Plan}
use Rattle.sd_plan.specs.Plans.{is_member}
use Rattle.sd_history.specs.declared.ApplyFault.{ApplyFault}
use Rattle.sd_sched.specs.declared.Event.{Event}
use Rattle.sd_history.specs.World.{Setting, Seen, latest_reading, alone}
use Rattle.sd_history.specs.Steps.{Step, seen_of}
use Rattle.sd_history.specs.Refusals.{causes, refusal, unknown_device, dead_device, unknown_message, spent_message, wrong_device, time_falls, counter_falls, not_started, window_order, after_end, too_many}
use Rattle.sd_beside.proofs.needed.Worlds.{IsCalm, ticks, receives, is_live, World}

-- none of the causes holds
abbrev pub NoneHold : List (ApplyFault × Bool) → Type 0
NoneHold [] = Unit {0}
NoneHold (c ∷ rest) = (c.1 ≡ false) × NoneHold rest

pub none_hold : (list : List (ApplyFault × Bool)) → NoneHold list → option_map (λ c. c.0) (find (λ c. c.1) list) ≡ None
none_hold [] none = refl
none_hold (c ∷ rest) none = rw none.0 (none_hold rest none.1)

pub record Live (net : Network) (plan : Plan) (down : Thing → Bool) (d : ℕ) : Type 0 where
  pub within : d < length net.devices
  pub member : is_member plan d ≡ true
  pub spared : down (thing.Device d) ≡ false

pub live_parts : (net : Network) (plan : Plan) (down : Thing → Bool) (d : ℕ) → is_live net plan down d ≡ true → Live net plan down d
live_parts net plan down d live =
    let (front, spared) = and_parts (nat_lt d (length net.devices) && is_member plan d) (not (down (thing.Device d))) live in
    let (within, member) = and_parts (nat_lt d (length net.devices)) (is_member plan d) front in
    record { within = ltb-true d (length net.devices) within; member = member; spared = not-true (down (thing.Device d)) spared }

module _ (net : Network) (plan : Plan) (f : DomainId) (down : Thing → Bool) (steps : List Step) (t : ℕ) (world : World net plan f down (seen_of steps) t) where
  abbrev setting : Setting
  setting = alone net plan

  abbrev seen : List Seen
  seen = seen_of steps

  pub allowed : (e : Event) (r d : ℕ) → IsCalm e r d → is_live net plan down d ≡ true → t ≤ r → length steps < 2 ^ 26
      → unknown_message steps e ≡ false → spent_message steps e ≡ false → wrong_device steps e ≡ false → refusal setting steps e ≡ None
  allowed e r d ticks live later_ room unknown spent wrong =
      let parts : Live net plan down d = live_parts net plan down d live in
      let known : unknown_device setting e ≡ false = lt-leb (length net.devices) d parts.within in
      let sound : dead_device seen e ≡ false = world.sound d live in
      let time : time_falls seen e ≡ false = rw world.latest (le-ltb r t later_) in
      let counter : counter_falls seen e ≡ false = (let before = world.read d in le-ltb r (latest_reading seen d) (omega (arith, later_, before))) in
      let up : not_started seen e ≡ false = rw (world.up d, live) refl in
      let open_ : window_order setting steps e ≡ false = refl in
      let goes_on : after_end seen ≡ false = world.goes_on in
      let few : too_many seen ≡ false = lt-leb (2 ^ 26) (length seen) (omega (arith, room, length-map steps (λ s. s.seen))) in
      none_hold (causes setting steps e)
      (known, (refl, (sound, (refl, (unknown, (spent, (wrong, (time, (counter, (up, (refl, (refl, (open_, (goes_on, (refl, (refl, (few, tt)))))))))))))))))
  allowed e r d (receives n) live later_ room unknown spent wrong =
      let parts : Live net plan down d = live_parts net plan down d live in
      let known : unknown_device setting e ≡ false = lt-leb (length net.devices) d parts.within in
      let sound : dead_device seen e ≡ false = world.sound d live in
      let time : time_falls seen e ≡ false = rw world.latest (le-ltb r t later_) in
      let counter : counter_falls seen e ≡ false = (let before = world.read d in le-ltb r (latest_reading seen d) (omega (arith, later_, before))) in
      let up : not_started seen e ≡ false = rw (world.up d, live) refl in
      let open_ : window_order setting steps e ≡ false = refl in
      let goes_on : after_end seen ≡ false = world.goes_on in
      let few : too_many seen ≡ false = lt-leb (2 ^ 26) (length seen) (omega (arith, room, length-map steps (λ s. s.seen))) in
      none_hold (causes setting steps e)
      (known, (refl, (sound, (refl, (unknown, (spent, (wrong, (time, (counter, (up, (refl, (refl, (open_, (goes_on, (refl, (refl, (few, tt)))))))))))))))))

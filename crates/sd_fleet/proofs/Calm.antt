-- Nothing refuses a calm event; and a receipt that is not refused is admitted as a tick of its device.
use Rattle.std.specs.Prelude.{◌≡◌, ℕ, ◌^◌, ◌<◌, true, false, not, List, [], ◌∷◌, length, nat_eq, nat_le, nat_lt, Some, None, Result, Ok, Err, refl}
use Rattle.std.proofs.Common.{arith, sym, ap}
use Rattle.std.proofs.lemmas.Bool.{and_parts, ltb-true, leb-true, eqb-true, eq-eqb, le-ltb, lt-leb, not-true}
use Rattle.sd_plan.specs.declared.topo.Thing.TheVariants as thing
use Rattle.sd_device.specs.declared.msg.Flight.{Flight}
use Rattle.sd_device.specs.declared.msg.TakeFault.{TakeFault}
use Rattle.sd_sched.specs.declared.Event.TheVariants as event
use Rattle.sd_history.specs.flights.Flights.{says_unknown, says_spent}
use Rattle.sd_world.specs.world.Registers.{up_at, failed_at, reading_at, admits_call}
use Rattle.sd_fleet.specs.Registers.{Registers}
use Rattle.sd_fleet.specs.Causes.{Cause, first_of, causes_in, refusal_in, flight_at, is_for_another}
use Rattle.sd_fleet.specs.Calm.{is_on_time}
use Rattle.sd_fleet.specs.Sound.{IsSound}
use Rattle.sd_fleet.proofs.Admitted.{NoneHolds, clear}
use Rattle.sd_fleet.proofs.Firsts.{behind}

-- where no cause holds there is no first one
nothing_first : (causes : List Cause) → NoneHolds causes → None ≡ first_of causes
nothing_first [] none = refl
nothing_first (cause ∷ causes) none = behind cause.0 cause.1 causes None none.0 (nothing_first causes none.1)

-- the causes that may hold of a tick or a receipt, apart from those of its message, fail
pub record IsAdmitted (r : Registers) (reference d counter : ℕ) : Type 0 where
  pub known : nat_le (length r.net.devices) d ≡ false
  pub alive : failed_at r.membership.world (thing.Device d) ≡ false
  pub on_time : nat_lt reference r.membership.world.reference ≡ false
  pub rises : nat_lt counter (reading_at r.membership.world d) ≡ false
  pub up : not (up_at r.membership.world d) ≡ false
  pub going : r.membership.world.ended ≡ false
  pub left : nat_le (2 ^ 26) r.membership.world.events ≡ false

pub admitted : (r : Registers) (reference d counter : ℕ) → IsSound r → admits_call r.membership.world reference d counter ≡ true
    → IsAdmitted r reference d counter
admitted r reference d counter sound admits =
    let w = r.membership.world in
    let one = and_parts (nat_lt d (length w.devices)) _ admits in
    let two = and_parts (up_at w d) _ one.1 in
    let three = and_parts (not (failed_at w (thing.Device d))) _ two.1 in
    let four = and_parts (nat_le (reading_at w d) counter) _ three.1 in
    let five = and_parts (nat_le w.reference reference) _ four.1 in
    let six = and_parts (not w.ended) (nat_lt w.events (2 ^ 26)) five.1 in
    let within : d < length w.devices = ltb-true d (length w.devices) one.0 in
    record {
      known = lt-leb (length r.net.devices) d (omega (arith, within, sound.membership.devices, sound.answers));
      alive = not-true (failed_at w (thing.Device d)) three.0;
      on_time = le-ltb reference w.reference (leb-true w.reference reference five.0);
      rises = le-ltb counter (reading_at w d) (leb-true (reading_at w d) counter four.0);
      up = ap not two.0;
      going = not-true w.ended six.0;
      left = lt-leb (2 ^ 26) w.events (ltb-true w.events (2 ^ 26) six.1);
    }

pub tick_accepted : (r : Registers) (reference d counter : ℕ) → IsAdmitted r reference d counter → refusal_in r (event.Tick reference d counter) ≡ None
tick_accepted r reference d counter a =
    sym (nothing_first (causes_in r (event.Tick reference d counter))
    (a.known, (refl, (a.alive, (refl, (refl, (refl, (refl, (a.on_time, (a.rises, (a.up, (refl, (refl, (refl, (a.going, (refl, (refl, (a.left, tt))))))))))))))))))

-- the flight is found, has not ended and is for the device
timely : (reference d : ℕ) (look : Result Flight TakeFault) → is_on_time reference d look ≡ true
    → (says_unknown look ≡ false) × (says_spent reference look ≡ false) × (is_for_another (Some d) look ≡ false)
timely reference d (Ok f) timed =
    let parts = and_parts (nat_le reference f.last) (nat_eq f.receiver d) timed in (
      refl,
      le-ltb f.last reference (leb-true reference f.last parts.0),
      ap not (eq-eqb d f.receiver (sym (eqb-true f.receiver d parts.1))),
    )
timely reference d (Err e) timed = cc

pub receipt_accepted : (r : Registers) (reference d counter message : ℕ) → IsAdmitted r reference d counter
    → is_on_time reference d (flight_at r message) ≡ true → refusal_in r (event.Recv reference d counter message) ≡ None
receipt_accepted r reference d counter message a timed =
    let (known, fresh, ours) = timely reference d (flight_at r message) timed in
    sym (nothing_first (causes_in r (event.Recv reference d counter message))
    (a.known, (refl, (a.alive, (refl, (known, (fresh, (ours, (a.on_time, (a.rises, (a.up, (refl, (refl, (refl, (a.going, (refl, (refl, (a.left, tt))))))))))))))))))

-- nothing refuses a tick that is admitted
pub calm_tick : (r : Registers) (reference d counter : ℕ) → IsSound r → admits_call r.membership.world reference d counter ≡ true
    → refusal_in r (event.Tick reference d counter) ≡ None
calm_tick r reference d counter sound admits = tick_accepted r reference d counter (admitted r reference d counter sound admits)

-- what is admitted goes by the world and the network alone
pub as_tick : (r : Registers) (reference d counter message : ℕ) → refusal_in r (event.Recv reference d counter message) ≡ None
    → IsAdmitted r reference d counter
as_tick r reference d counter message accepted =
    let all = clear r (event.Recv reference d counter message) accepted in
    record {
      known = all.unknown;
      alive = all.dead;
      on_time = all.early;
      rises = all.falls;
      up = all.down;
      going = all.over;
      left = all.too_many;
    }

-- What holds of an event that is not refused, by what a fabric keeps.
use Rattle.std.specs.Prelude.{◌≡◌, ℕ, ◌^◌, ◌<◌, ◌≤◌, Bool, true, false, ◌&&◌, ◌||◌, not, List, [], ◌∷◌, cond, find, length, nat_le, nat_lt, Option, Some, None, is_some, option_map, refl}
use Rattle.std.proofs.Common.{ap, subst}
use Rattle.std.proofs.lemmas.Bool.{leb-false, ltb-false, not-false}
use Rattle.sd_num.specs.Lists.{map_or}
use Rattle.sd_num.proofs.Shared.{or_first}
use Rattle.sd_plan.specs.declared.topo.Thing.TheVariants as thing
use Rattle.sd_sched.specs.declared.Event.{Event}
use Rattle.sd_sched.specs.Events.{reference_of, device_of, counter_of, message_of, started, joined, given}
use Rattle.sd_history.specs.Things.{failure_of, mended}
use Rattle.sd_history.specs.Refusals.{makes_some}
use Rattle.sd_history.specs.flights.Flights.{says_unknown, says_spent}
use Rattle.sd_world.specs.world.Registers.{up_at, failed_at, reading_at}
use Rattle.sd_world.specs.membership.Memberships.{is_in_force, is_in_staged}
use Rattle.sd_fleet.specs.Registers.{Registers}
use Rattle.sd_fleet.specs.Causes.{Cause, first_of, causes_in, refusal_in, flight_at, is_out_of_order}
use Rattle.sd_fleet.proofs.Alike.{in_range}

-- none of the causes holds
abbrev pub NoneHolds : List Cause → Type 0
NoneHolds [] = Unit {0}
NoneHolds (cause ∷ causes) = (cause.1 ≡ false) × NoneHolds causes

pub none_holds : (causes : List Cause) → first_of causes ≡ None → NoneHolds causes
none_holds [] none = tt
none_holds (cause ∷ causes) none = go cause.1 refl none (none_holds causes)
  where
    go : (b : Bool) → cause.1 ≡ b
        → option_map (λ (c : Cause). c.0) (cond b (Some cause) (find (λ (c : Cause). c.1) causes)) ≡ None → (first_of causes ≡ None → NoneHolds causes)
        → (cause.1 ≡ false) × NoneHolds causes
    go true holds none others = cc
    go false fails none others = (fails, others none)

-- a test of what is named fails
fails_at : (o : Option ℕ) (test : ℕ → Bool) (n : ℕ) → map_or o false test ≡ false → o ≡ Some n → test n ≡ false
fails_at None test n fails is = cc
fails_at (Some m) test n fails is = let same : m ≡ n = cc in subst (λ (k : ℕ). test k ≡ false) same fails

-- one of two that are both required
and_right : (a b : Bool) → (a && b) ≡ false → a ≡ true → b ≡ false
and_right true b both holds = both
and_right false b both holds = cc

or_second : (a b : Bool) → (a || b) ≡ false → b ≡ false
or_second true b neither = cc
or_second false b neither = neither

-- what does not hold of an event that is not refused, each under a name
pub record IsClear (r : Registers) (e : Event) : Type 0 where
  pub unknown : map_or (device_of e) false (λ d. nat_le (length r.net.devices) d) ≡ false
  pub dead : (not (is_some (mended e)) && map_or (device_of e) false (λ d. failed_at r.membership.world (thing.Device d))) ≡ false
  pub no_message : map_or (message_of e) false (λ n. says_unknown (flight_at r n)) ≡ false
  pub spent : map_or (message_of e) false (λ n. says_spent (reference_of e) (flight_at r n)) ≡ false
  pub early : nat_lt (reference_of e) r.membership.world.reference ≡ false
  pub falls : (not (makes_some e) && map_or (device_of e) false (λ d. map_or (counter_of e) false (λ c. nat_lt c (reading_at r.membership.world d)))) ≡ false
  pub down : (not (makes_some e || is_some (failure_of e) || is_some (mended e)) && map_or (device_of e) false (λ d. not (up_at r.membership.world d))) ≡ false
  pub out_of_order : is_out_of_order r e ≡ false
  pub over : r.membership.world.ended ≡ false
  pub stranger : (map_or (started e) false (λ d. not (is_in_force r.membership d)) || map_or (given e) false (λ d. not (is_in_staged r.membership d))
      || map_or (joined e) false (λ d. not (is_in_staged r.membership d))) ≡ false
  pub too_many : nat_le (2 ^ 26) r.membership.world.events ≡ false

-- here alone a cause is named by its place
pub clear : (r : Registers) (e : Event) → refusal_in r e ≡ None → IsClear r e
clear r e accepted =
    let all = none_holds (causes_in r e) accepted in
    record {
      unknown = all.0;
      dead = all.1.1.0;
      no_message = all.1.1.1.1.0;
      spent = all.1.1.1.1.1.0;
      early = all.1.1.1.1.1.1.1.0;
      falls = all.1.1.1.1.1.1.1.1.0;
      down = all.1.1.1.1.1.1.1.1.1.0;
      out_of_order = all.1.1.1.1.1.1.1.1.1.1.1.1.0;
      over = all.1.1.1.1.1.1.1.1.1.1.1.1.1.0;
      stranger = all.1.1.1.1.1.1.1.1.1.1.1.1.1.1.1.0;
      too_many = all.1.1.1.1.1.1.1.1.1.1.1.1.1.1.1.1.0;
    }

module _ (r : Registers) (e : Event) (accepted : refusal_in r e ≡ None) where
  all : IsClear r e
  all = clear r e accepted

  -- what is named is known
  pub device_known : (d : ℕ) → device_of e ≡ Some d → d < length r.net.devices
  device_known d is = in_range (length r.net.devices) (device_of e) d all.unknown is

  -- its message is on its way
  pub message_known : (n : ℕ) → message_of e ≡ Some n → says_unknown (flight_at r n) ≡ false
  message_known n is = fails_at (message_of e) (λ n. says_unknown (flight_at r n)) n all.no_message is

  pub message_unspent : (n : ℕ) → message_of e ≡ Some n → says_spent (reference_of e) (flight_at r n) ≡ false
  message_unspent n is = fails_at (message_of e) (λ n. says_spent (reference_of e) (flight_at r n)) n all.spent is

  pub counter_rises : (d c : ℕ) → makes_some e ≡ false → device_of e ≡ Some d → counter_of e ≡ Some c → reading_at r.membership.world d ≤ c
  counter_rises d c makes named read =
      let late = and_right (not (makes_some e))
      (map_or (device_of e) false (λ d. map_or (counter_of e) false (λ c. nat_lt c (reading_at r.membership.world d)))) all.falls
      (ap not makes) in
      let below = fails_at (device_of e) (λ d. map_or (counter_of e) false (λ c. nat_lt c (reading_at r.membership.world d))) d late named in
      ltb-false c (reading_at r.membership.world d) (fails_at (counter_of e) (λ c. nat_lt c (reading_at r.membership.world d)) c below read)

  -- its device is up, where it is called or asked
  pub device_up : (d : ℕ) → (makes_some e || is_some (failure_of e) || is_some (mended e)) ≡ false → device_of e ≡ Some d → up_at r.membership.world d ≡ true
  device_up d calls named =
      let down = and_right (not (makes_some e || is_some (failure_of e) || is_some (mended e)))
      (map_or (device_of e) false (λ d. not (up_at r.membership.world d))) all.down (ap not calls) in
      not-false (up_at r.membership.world d) (fails_at (device_of e) (λ d. not (up_at r.membership.world d)) d down named)

  -- members
  pub started_member : (d : ℕ) → started e ≡ Some d → is_in_force r.membership d ≡ true
  started_member d is =
      let first = or_first (map_or (started e) false (λ d. not (is_in_force r.membership d)))
      (map_or (given e) false (λ d. not (is_in_staged r.membership d)))
      (or_first _ (map_or (joined e) false (λ d. not (is_in_staged r.membership d))) all.stranger) in
      not-false (is_in_force r.membership d) (fails_at (started e) (λ d. not (is_in_force r.membership d)) d first is)

  pub given_member : (d : ℕ) → given e ≡ Some d → is_in_staged r.membership d ≡ true
  given_member d is =
      let second =
      or_second (map_or (started e) false (λ d. not (is_in_force r.membership d))) (map_or (given e) false (λ d. not (is_in_staged r.membership d)))
      (or_first _ (map_or (joined e) false (λ d. not (is_in_staged r.membership d))) all.stranger) in
      not-false (is_in_staged r.membership d) (fails_at (given e) (λ d. not (is_in_staged r.membership d)) d second is)

  pub events_left : r.membership.world.events < 2 ^ 26
  events_left = leb-false (2 ^ 26) r.membership.world.events all.too_many

-- What is seen of a history where some things failed at first, the other members started, and then devices only ticked and received: who is up,
-- what has failed, and that each premise but that on losses holds on.
use Rattle.std.specs.Prelude.{◌≡◌, ℕ, ◌+◌, ◌-◌, ◌*◌, ◌<◌, ◌≤◌, Bool, true, false, ◌&&◌, ◌||◌, not, List, ◌∷◌, ◌++◌, length, cond, count_by, nat_eq, nat_le, nat_lt, Some, None, is_some, option_to_list, refl, if◌then◌else◌}
use Rattle.std.specs.List.{list_any, list_all}
use Rattle.std.proofs.Common.{ap, arith}
use Rattle.std.proofs.lemmas.Bool.{and_from, or_left, or_right, le-leb}
use Rattle.std.proofs.lemmas.List.Sums.{sum_by-cons}
use Rattle.sd_num.specs.Lists.{map_or}
use Rattle.sd_num.specs.Numbers.{distance, keeps_rate}
use Rattle.sd_num.specs.declared.Rates.{Rates}
use Rattle.sd_plan.specs.topo.Network.{Network, device_numbers, rates_of}
use Rattle.sd_plan.specs.declared.topo.Thing.{Thing}
use Rattle.sd_plan.specs.declared.topo.Thing.TheVariants as thing
use Rattle.sd_plan.specs.domain.Domains.{holds, domains, within_one}
use Rattle.sd_plan.specs.declared.domain.DomainId.{DomainId}
use Rattle.sd_plan.specs.declared.Plan.{Plan}
use Rattle.sd_plan.specs.Plans.{is_member, members}
use Rattle.sd_sched.specs.declared.Event.{Event}
use Rattle.sd_sched.specs.declared.Event.TheVariants as event
use Rattle.sd_sched.specs.Events.{reference_of, is_end_event, is_stage}
use Rattle.sd_history.specs.Things.{failure_of}
use Rattle.sd_history.specs.World.{Setting, Seen, is_up, was_made, has_failed, is_untouched, latest_reference, latest_reading, window, plan_numbered, alone}
use Rattle.sd_history.specs.Steps.{Step, Told, seen_of, first_step, can_close}
use Rattle.sd_history.specs.Chronicle.{next_step}
use Rattle.sd_history.specs.Premises.{readings, reads_honestly, start_holds, drift_holds, delay_holds, tick_holds, domain_holds, renew_holds, arrives_in_time, ticks_in_time, latest_tick, is_current_member, first_reference, failures_since_closing, fails_within_one}
use Rattle.sd_history.proofs.Among.{Among, first, later, all_pass}
use Rattle.sd_history.proofs.Filters.{kept_among}
use Rattle.sd_history.proofs.flights.Places.{among_below}
use Rattle.sd_beside.proofs.needed.Elements.{passes_kept, found_some}

-- a tick or a receipt of a device at a reference, with a clock that shows just this
pub data IsCalm : Event → ℕ → ℕ → Type 0 where
  ticks : {r d : ℕ} → IsCalm (event.Tick r d r) r d
  receives : {r d : ℕ} (n : ℕ) → IsCalm (event.Recv r d r n) r d

-- the device is a member that does not fail
abbrev pub is_live : Network → Plan → (Thing → Bool) → ℕ → Bool
is_live net plan down d = nat_lt d (length net.devices) && is_member plan d && not (down (thing.Device d))

-- what is seen of such a history up to this reference
pub record World (net : Network) (plan : Plan) (f : DomainId) (down : Thing → Bool) (seen : List Seen) (t : ℕ) : Type 0 where
  pub up : (d : ℕ) → is_up seen d ≡ is_live net plan down d
  pub sound : (d : ℕ) → is_live net plan down d ≡ true → has_failed seen (thing.Device d) ≡ false
  pub made : (d : ℕ) → is_live net plan down d ≡ true → was_made seen d ≡ true
  pub fallen : (d : ℕ) → down (thing.Device d) ≡ true → has_failed seen (thing.Device d) ≡ true
  pub failed : (l : ℕ) → down (thing.Link l) ≡ true → has_failed seen (thing.Link l) ≡ true
  pub window : window seen ≡ None
  pub closings : count_by (λ s. s.closed) seen ≡ 0
  pub goes_on : list_any (λ s. is_end_event s.event) seen ≡ false
  pub latest : latest_reference seen ≡ t
  pub read : (d : ℕ) → latest_reading seen d ≤ t
  pub touched : (d : ℕ) → d < length net.devices → is_member plan d ≡ true → is_untouched seen d ≡ false
  pub honest : (d : ℕ) (x : ℕ × ℕ) → Among x (readings seen d) → x.1 ≡ x.0
  pub within : list_all (holds net f) (failures_since_closing seen) ≡ true
  pub start_held : start_holds seen ≡ true
  pub drift_held : drift_holds (alone net plan) seen ≡ true
  pub delay_held : delay_holds (alone net plan) seen ≡ true
  pub tick_held : tick_holds (alone net plan) seen ≡ true
  pub domain_held : domain_holds (alone net plan) seen ≡ true
  pub renew_held : renew_holds (alone net plan) seen ≡ true

-- each live device ticked so late that this reference is in time
abbrev pub OnTime : Network → Plan → (Thing → Bool) → List Seen → ℕ → Type 0
OnTime net plan down seen r = (d : ℕ) → is_live net plan down d ≡ true → r ≤ latest_tick seen d + net.params.tick

-- a tick is the latest one of its device
pub tick_later : (b : Bool) (r old tick : ℕ) → r ≤ old + tick → r ≤ map_or (if b || false then Some r else None) old (λ told. told) + tick
tick_later true r old tick late = omega arith
tick_later false r old tick late = late

-- Calm events

same_rate : (rates : Rates) (a : ℕ) → keeps_rate rates a a ≡ true
same_rate rates a =
    let none : distance a a ≡ 0 = omega arith in
    rw none (le-leb (0 * 1000000) (rates.ppm * a + rates.grain * 1000000) (omega arith))

-- what is read with a true clock is true
read_true : (r : ℕ) (b : Bool) (old : List (ℕ × ℕ)) (x : ℕ × ℕ) → ((y : ℕ × ℕ) → Among y old → y.1 ≡ y.0)
    → Among x (if b then (r, r) ∷ old else old) → x.1 ≡ x.0
read_true r true old x each first = refl
read_true r true old x each (later a) = each x a
read_true r false old x each a = each x a

-- an event that neither closes nor opens a window
pub window_on : (s : Seen) (seen : List Seen) → s.closed ≡ false → is_stage s.event ≡ false → window seen ≡ None → window (s ∷ seen) ≡ None
window_on s seen open_ other none = rw (open_, other, none) refl

pub closings_on : (s : Seen) (seen : List Seen) → s.closed ≡ false → count_by (λ x. x.closed) seen ≡ 0 → count_by (λ x. x.closed) (s ∷ seen) ≡ 0
closings_on s seen open_ none =
    let more = sum_by-cons (λ (x : Seen). cond x.closed 1 0) s seen in
    let zero_ : cond {A = ℕ} s.closed 1 0 ≡ 0 = ap (λ (b : Bool). cond b 1 0) open_ in
    omega (arith, more, zero_, none)

-- nor fails a thing
pub within_on : (p : Thing → Bool) (s : Seen) (seen : List Seen) → s.closed ≡ false → failure_of s.event ≡ None
    → list_all p (failures_since_closing seen) ≡ true → list_all p (failures_since_closing (s ∷ seen)) ≡ true
within_on p s seen open_ none all = rw (open_, none) all

-- a device that reads at this reference
pub read_on : (r t d x : ℕ) {old : ℕ} → t ≤ r → old ≤ t → map_or (if nat_eq d x then Some r else None) old (λ told. told) ≤ r
read_on r t d x {old = old} later_ before = by (nat_eq d x)
  where
    by : (b : Bool) → map_or (if b then Some r else None) old (λ told. told) ≤ r
    by true = omega arith
    by false = omega (arith, later_, before)

module _ (net : Network) (plan : Plan) (f : DomainId) (down : Thing → Bool) (steps : List Step) (t : ℕ) (world : World net plan f down (seen_of steps) t) where
  abbrev setting : Setting
  setting = alone net plan

  abbrev seen : List Seen
  seen = seen_of steps

  -- no window closes
  none_commits : (e : Event) (told : Told) (r d : ℕ) → IsCalm e r d → can_close setting (first_step setting steps e told ∷ steps) ≡ false
  none_commits e told r d ticks = rw world.window refl
  none_commits e told r d (receives n) = rw world.window refl

  rate_held : (e : Event) (r d : ℕ) → IsCalm e r d → reads_honestly setting (next_step setting steps e).seen seen ≡ true
  rate_held e r d ticks =
      all_pass (λ x. keeps_rate (rates_of net d) (r - x.1) (r - x.0)) (readings seen d)
      (λ x a. rw (world.honest d x a) (same_rate (rates_of net d) (r - x.0)))
  rate_held e r d (receives n) =
      all_pass (λ x. keeps_rate (rates_of net d) (r - x.1) (r - x.0)) (readings seen d)
      (λ x a. rw (world.honest d x a) (same_rate (rates_of net d) (r - x.0)))

  -- whoever is up and has to tick did so in time
  ticked_held : (s : Seen) (r : ℕ) → reference_of s.event ≡ r → OnTime net plan down seen r → ticks_in_time setting s seen ≡ true
  ticked_held s r is on_time =
      and_from
      (list_all (λ d. not (is_up seen d && is_current_member setting seen d) || nat_le (reference_of s.event) (latest_tick seen d + net.params.tick))
      (device_numbers net))
      (list_all (λ d. not (is_untouched seen d) || nat_le (reference_of s.event) (first_reference seen s + net.params.tick))
      (members net (plan_numbered setting 1)))
      (all_pass (λ d. not (is_up seen d && is_current_member setting seen d) || nat_le (reference_of s.event) (latest_tick seen d + net.params.tick))
      (device_numbers net)
      (λ d a. in_time d (is_live net plan down d) refl))
      (all_pass (λ d. not (is_untouched seen d) || nat_le (reference_of s.event) (first_reference seen s + net.params.tick))
      (members net (plan_numbered setting 1))
      (λ d a.
      or_left (not (is_untouched seen d)) (nat_le (reference_of s.event) (first_reference seen s + net.params.tick))
      (ap not (world.touched d (among_below (length net.devices) d (kept_among (is_member plan) (device_numbers net) d a))
      (passes_kept (is_member plan) (device_numbers net) d a)))))
    where
      in_time : (d : ℕ) (b : Bool) → is_live net plan down d ≡ b
          → (not (is_up seen d && is_current_member setting seen d) || nat_le (reference_of s.event) (latest_tick seen d + net.params.tick)) ≡ true
      in_time d true live =
          or_right (not (is_up seen d && is_current_member setting seen d)) (nat_le (reference_of s.event) (latest_tick seen d + net.params.tick))
          (let late : r ≤ latest_tick seen d + net.params.tick = on_time d live in
          le-leb (reference_of s.event) (latest_tick seen d + net.params.tick) (omega (arith, late, is)))
      in_time d false live =
          or_left (not (is_up seen d && is_current_member setting seen d)) (nat_le (reference_of s.event) (latest_tick seen d + net.params.tick))
          (rw (world.up d, live) refl)

  within_held : (s : Seen) → failure_of s.event ≡ None → Among f (domains net)
      → is_some (within_one net (option_to_list (failure_of s.event) ++ failures_since_closing seen)) ≡ true
  within_held s none among =
      rw none (found_some (λ g. list_all (holds net g) (failures_since_closing seen)) (domains net) f world.within among)

  pub world_goes_on : (e : Event) (r d : ℕ) → IsCalm e r d → Among f (domains net) → t ≤ r → OnTime net plan down seen r
      → arrives_in_time setting (next_step setting steps e).seen ≡ true
      → World net plan f down (seen_of (next_step setting steps e ∷ steps)) r
  world_goes_on e r d ticks among later_ on_time arrives =
      let s : Seen = (next_step setting steps e).seen in
      let open_ : s.closed ≡ false = none_commits e (next_step setting steps e).told r d ticks in
      record {
        up = world.up;
        sound = world.sound;
        made = world.made;
        fallen = world.fallen;
        failed = world.failed;
        window = window_on s seen open_ refl world.window;
        closings = closings_on s seen open_ world.closings;
        goes_on = world.goes_on;
        latest = refl;
        read = λ x. read_on r t d x later_ (world.read x);
        touched = world.touched;
        honest = λ x y a. read_true r (nat_eq d x) (readings seen x) y (world.honest x) a;
        within = within_on (holds net f) s seen open_ refl world.within;
        start_held = world.start_held;
        drift_held = and_from (drift_holds setting seen) (reads_honestly setting s seen) world.drift_held (rate_held e r d ticks);
        delay_held = and_from (arrives_in_time setting s) (delay_holds setting seen) arrives world.delay_held;
        tick_held = and_from (tick_holds setting seen) (ticks_in_time setting s seen) world.tick_held (ticked_held s r refl on_time);
        domain_held = and_from (domain_holds setting seen) (fails_within_one setting s seen) world.domain_held (within_held s refl among);
        renew_held = and_from (renew_holds setting seen) true world.renew_held refl;
      }
  world_goes_on e r d (receives n) among later_ on_time arrives =
      let s : Seen = (next_step setting steps e).seen in
      let open_ : s.closed ≡ false = none_commits e (next_step setting steps e).told r d (receives n) in
      record {
        up = world.up;
        sound = world.sound;
        made = world.made;
        fallen = world.fallen;
        failed = world.failed;
        window = window_on s seen open_ refl world.window;
        closings = closings_on s seen open_ world.closings;
        goes_on = world.goes_on;
        latest = refl;
        read = λ x. read_on r t d x later_ (world.read x);
        touched = world.touched;
        honest = λ x y a. read_true r (nat_eq d x) (readings seen x) y (world.honest x) a;
        within = within_on (holds net f) s seen open_ refl world.within;
        start_held = world.start_held;
        drift_held = and_from (drift_holds setting seen) (reads_honestly setting s seen) world.drift_held (rate_held e r d (receives n));
        delay_held = and_from (arrives_in_time setting s) (delay_holds setting seen) arrives world.delay_held;
        tick_held = and_from (tick_holds setting seen) (ticks_in_time setting s seen) world.tick_held (ticked_held s r refl on_time);
        domain_held = and_from (domain_holds setting seen) (fails_within_one setting s seen) world.domain_held (within_held s refl among);
        renew_held = and_from (renew_holds setting seen) true world.renew_held refl;
      }

-- What an event says when it is moved: all but its reference, its counter and its clock stay.
use Rattle.std.specs.Prelude.{◌≡◌, ℕ, ◌+◌, Bool, Option, option_map, nat_le, refl}
use Rattle.std.proofs.Common.{arith, ap}
use Rattle.sd_num.specs.Numbers.{distance}
use Rattle.sd_plan.specs.declared.topo.Thing.{Thing}
use Rattle.sd_sched.specs.declared.Event.{Event}
use Rattle.sd_sched.specs.declared.Event.TheVariants as event
use Rattle.sd_sched.specs.Events.{reference_of, device_of, counter_of, link_of, message_of, received, started, joined, given, ticked, is_stage, is_commit, is_seal, is_end_event}
use Rattle.sd_sched.specs.Honesty.{sets_true_clock}
use Rattle.sd_history.specs.Things.{failure_of, mended}
use Rattle.sd_beside.specs.translation.Moves.{moved_event}

-- what an event says, but for its reference, counter and clock
pub record EventWords : Type 0 where
  pub device : Option ℕ
  pub link : Option ℕ
  pub message : Option ℕ
  pub received : Option ℕ
  pub started : Option ℕ
  pub joined : Option ℕ
  pub given : Option ℕ
  pub ticked : Option ℕ
  pub is_stage : Bool
  pub is_commit : Bool
  pub is_seal : Bool
  pub is_end : Bool
  pub failure : Option Thing
  pub mended : Option Thing

abbrev pub words_of : Event → EventWords
words_of e =
    record {
      device = device_of e;
      link = link_of e;
      message = message_of e;
      received = received e;
      started = started e;
      joined = joined e;
      given = given e;
      ticked = ticked e;
      is_stage = is_stage e;
      is_commit = is_commit e;
      is_seal = is_seal e;
      is_end = is_end_event e;
      failure = failure_of e;
      mended = mended e;
    }

pub same_words : (time by : ℕ) (e : Event) → words_of (moved_event time by e) ≡ words_of e
same_words time by (event.Start reference device counter clock eps) = refl
same_words time by _ = refl

pub reference_moved : (time by : ℕ) (e : Event) → reference_of (moved_event time by e) ≡ reference_of e + time
reference_moved time by (event.Start reference device counter clock eps) = refl
reference_moved time by _ = refl

pub counter_moved : (time by : ℕ) (e : Event) → counter_of (moved_event time by e) ≡ option_map (λ c. c + by) (counter_of e)
counter_moved time by (event.Start reference device counter clock eps) = refl
counter_moved time by _ = refl

same_distance : (a b by : ℕ) → distance (a + by) (b + by) ≡ distance a b
same_distance a b by = omega arith

pub clock_same : (time by : ℕ) (e : Event) → sets_true_clock (moved_event time by e) ≡ sets_true_clock e
clock_same time by (event.Start reference device counter clock eps) = ap (λ apart. nat_le apart eps) (same_distance clock reference time)
clock_same time by (event.Fix reference device counter clock eps) = ap (λ apart. nat_le apart eps) (same_distance clock reference time)
clock_same time by (event.Join reference device counter clock eps) = ap (λ apart. nat_le apart eps) (same_distance clock reference time)
clock_same time by _ = refl

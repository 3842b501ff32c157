-- What the rules keep of a device's registers: their soundness, and the bounds on what they hold and send.
use Rattle.std.proofs.Common.{◌≡◌, ℕ, ◌+◌, ◌-◌, ◌≤◌, ◌^◌, ◌⊎◌, Bool, true, false, ◌&&◌, Option, Some, None, refl, subst, inl, inr, arith}
use Rattle.std.specs.Prelude.{max, IfSome, nat_eq, if◌then◌else◌, option_map, option_and_then}
use Rattle.sd_num.specs.Lists.{map_or}
use Rattle.sd_num.specs.Numbers.{grow}
use Rattle.sd_num.specs.declared.Rates.{Rates}
use Rattle.sd_plan.specs.topo.Limits.{IsRates}
use Rattle.sd_plan.specs.declared.Duty.{Duty}
use Rattle.sd_plan.specs.declared.Edge.{Edge}
use Rattle.sd_device.specs.declared.msg.Message.{Message}
use Rattle.sd_device.specs.msg.Stamps.{is_newer}
use Rattle.sd_device.specs.declared.Effect.{Effect}
use Rattle.sd_device.specs.declared.registers.Registers.{Registers}
use Rattle.sd_device.specs.declared.registers.Mode.{Mode}
use Rattle.sd_device.specs.declared.registers.Mode.TheVariants.{Primary, Backup, Acting, Idle}
use Rattle.sd_device.specs.declared.turns.Turn.{Turn}
use Rattle.sd_device.specs.declared.turns.Turn.TheVariants.{Emit, TakeOver, Move, Stay}
use Rattle.sd_device.specs.Words.{over_link}
use Rattle.sd_device.specs.Rules.{parent_in, acts_in, turn_of, turn_with, turned, report_in, floor_in, ceiling_in, height_in, entering, accepting, accepted, entered, edge_in, epoch_in, quietly, called}
use Rattle.sd_device.specs.Limits.{IsEdge, IsDuty, IsSound, IfSent, IsUpTo, IsAsHighAs}
use Rattle.sd_device.specs.Calls.{Tick, Receive}

-- a report is not far above what is kept
growth_bound : (rates : Rates) (e : ℕ) → IsRates rates → e ≤ 2 ^ 60 → rates.grain + grow rates.ppm e ≤ 2 ^ 61
growth_bound rates e fits few = grind (arith, fits)

-- what a tick keeps
pub record TickKeeps (r : Registers) (counter : ℕ) (by : Registers × Effect) : Type 0 where
  pub sound : IsSound by.0
  pub given : by.0.given ≡ r.given
  pub floor : floor_in by.0 ≤ counter
  pub height : height_in by.0 ≤ height_in r + 1
  pub clock : IfSent by.1 (IsUpTo (ceiling_in r + 2 ^ 61))
  pub stamp : IfSent by.1 (IsAsHighAs (height_in by.0))

-- without a duty a tick does nothing
pub no_turn : (r : Registers) (counter : ℕ) (turn : Turn) → turn_of r counter ≡ turn → r.duty ≡ None → Stay ≡ turn
no_turn r counter turn is none = subst (λ (duty : Option Duty). map_or duty Stay (turn_with r counter) ≡ turn) none is

reported : (r : Registers) (counter : ℕ) → IsRates r.rates → counter ≤ 2 ^ 60
    → ((report_in r counter).clock ≤ ceiling_in r + 2 ^ 61) × ((report_in r counter).eps ≤ ceiling_in r + 2 ^ 61)
reported r counter fits few =
    let growth : r.rates.grain + grow r.rates.ppm (counter - r.estimate.at) ≤ 2 ^ 61 =
    growth_bound r.rates (counter - r.estimate.at) fits (omega (arith, few)) in
    (omega (arith, few), omega (arith, growth))

-- a tick keeps the soundness
pub turn_sound : (r : Registers) (counter : ℕ) (turn : Turn) → turn_of r counter ≡ turn → IsSound r → IsSound (turned r counter turn).0
turn_sound r counter Emit is sound = record { duty = sound.duty; given = sound.given; rates = sound.rates; idle = sound.idle }
turn_sound r counter TakeOver is sound =
    record {
      duty = sound.duty;
      given = sound.given;
      rates = sound.rates;
      idle = λ none. let h : Stay ≡ TakeOver = no_turn r counter TakeOver is none in cc;
    }
turn_sound r counter Move is sound =
    record { duty = sound.duty; given = sound.given; rates = sound.rates; idle = λ none. let h : Stay ≡ Move = no_turn r counter Move is none in cc }
turn_sound r counter Stay is sound = sound

pub turn_keeps : (r : Registers) (counter : ℕ) (turn : Turn) → turn_of r counter ≡ turn → IsSound r → floor_in r ≤ counter → counter ≤ 2 ^ 60
    → TickKeeps r counter (turned r counter turn)
turn_keeps r counter Emit is sound due few =
    let bounds = reported r counter sound.rates few in
    record {
      sound = turn_sound r counter Emit is sound;
      given = refl;
      floor = omega (arith, due);
      height = omega arith;
      clock = record { clock = bounds.0; eps = bounds.1 };
      stamp = record { term = omega arith; round = omega arith };
    }
turn_keeps r counter TakeOver is sound due few =
    let bounds = reported r counter sound.rates few in
    record {
      sound = turn_sound r counter TakeOver is sound;
      given = refl;
      floor = omega (arith, due);
      height = omega arith;
      clock = record { clock = bounds.0; eps = bounds.1 };
      stamp = record { term = omega arith; round = omega arith };
    }
turn_keeps r counter Move is sound due few =
    record {
      sound = turn_sound r counter Move is sound;
      given = refl;
      floor = omega (arith, due);
      height = omega arith;
      clock = tt;
      stamp = tt;
    }
turn_keeps r counter Stay is sound due few =
    record {
      sound = sound;
      given = refl;
      floor = due;
      height = omega arith;
      clock = tt;
      stamp = tt;
    }

-- the same where the registers were opened, and closed again
pub tick_keeps : (old r new : Registers) (result : Effect) (counter : ℕ) → r ≡ old → new ≡ (called r (Tick counter)).0 → result ≡ (called r (Tick counter)).1
    → IsSound r → floor_in old ≤ counter → counter ≤ 2 ^ 60 → TickKeeps old counter (new, result)
tick_keeps old r new result counter same after sends sound due few =
    rw (after, sends, same) (turn_keeps old counter (turn_of old counter) refl (subst IsSound same sound) due few)

-- the soundness alone, for every counter
pub tick_sound : (old r new : Registers) (counter : ℕ) → r ≡ old → new ≡ (called r (Tick counter)).0 → IsSound r → IsSound new
tick_sound old r new counter same after sound = rw after (turn_sound r counter (turn_of r counter) refl sound)

-- the edges within the limits of duties within the limits
over_fits : (link : ℕ) (edge : Option Edge) → IfSome edge IsEdge → IfSome (option_and_then (over_link link) edge) IsEdge
over_fits link None fits = tt
over_fits link (Some edge) fits = go (nat_eq edge.link link)
  where
    go : (same : Bool) → IfSome (if same then Some edge else None) IsEdge
    go true = fits
    go false = tt

edge_fits : (mode : Mode) (duty : Option Duty) → IfSome duty IsDuty
    → IfSome (elim mode as (λ (m : Mode). Option Edge) [
      | Primary ↦ map_or duty None (λ d. d.primary)
      | Backup ↦ map_or duty None (λ d. d.backup)
      | _ ↦ None
    ]) IsEdge
edge_fits Primary None fits = tt
edge_fits Primary (Some duty) fits = fits.primary
edge_fits Backup None fits = tt
edge_fits Backup (Some duty) fits = fits.backup
edge_fits Acting duty fits = tt
edge_fits Idle duty fits = tt

accepting_fits : (r : Registers) (link : ℕ) (message : Message) → IsSound r → IfSome (accepting r link message) IsEdge
accepting_fits r link message sound = go (nat_eq (epoch_in r) message.epoch && is_newer message.stamp r.stamp)
  where
    go : (fits : Bool) → IfSome (if fits then option_and_then (over_link link) (edge_in r) else None) IsEdge
    go true = over_fits link (edge_in r) (edge_fits r.mode r.duty sound.duty)
    go false = tt

abbrev EntersFit : Option (Duty × Edge) → Type 0
EntersFit enters = IfSome enters (λ by. IsDuty by.0 × IsEdge by.1)

entering_fits : (given : Option Duty) (link : ℕ) (message : Message) → IfSome given IsDuty
    → EntersFit (option_and_then
    (λ duty. if nat_eq duty.epoch message.epoch then option_map (λ (edge : Edge). (duty, edge)) (option_and_then (over_link link) duty.primary) else None)
    given)
entering_fits None link message fits = tt
entering_fits (Some duty) link message fits =
    go (nat_eq duty.epoch message.epoch) (option_and_then (over_link link) duty.primary) (over_fits link duty.primary fits.primary)
  where
    go : (same : Bool) (edge : Option Edge) → IfSome edge IsEdge → EntersFit (if same then option_map (λ (edge : Edge). (duty, edge)) edge else None)
    go true (Some edge) edge_fits = (fits, edge_fits)
    go true None edge_fits = tt
    go false edge edge_fits = tt

-- what a message keeps
pub record MessageKeeps (r : Registers) (message : Message) (counter : ℕ) (by : Registers × Effect) : Type 0 where
  pub sound : IsSound by.0
  pub given : (by.0.given ≡ r.given) ⊎ (by.0.given ≡ None)
  pub floor : floor_in by.0 ≤ counter
  pub ceiling : ceiling_in by.0 ≤ max (max (ceiling_in r) message.clock) message.eps + 2 ^ 41
  pub height : height_in by.0 ≤ max (max (height_in r) message.stamp.term) message.stamp.round
  pub clock : IfSent by.1 (IsUpTo (ceiling_in by.0))
  pub stamp : IfSent by.1 (IsAsHighAs (height_in by.0))

-- where a device accepts, whatever it took up before
accepted_keeps : (r taken : Registers) (edge : Edge) (message : Message) (counter : ℕ) → IsSound taken → (taken.given ≡ r.given) ⊎ (taken.given ≡ None)
    → taken.sent ≡ r.sent
    → IsEdge edge → floor_in r ≤ counter → MessageKeeps r message counter (accepted taken edge message counter)
accepted_keeps r taken edge message counter sound given same fits due =
    record {
      sound = record { duty = sound.duty; given = sound.given; rates = sound.rates; idle = sound.idle };
      given = given;
      floor = omega (arith, due, same);
      ceiling = omega (arith, fits.mid, fits.half);
      height = omega arith;
      clock = record { clock = omega arith; eps = omega arith };
      stamp = record { term = omega arith; round = omega arith };
    }

received_keeps : (r : Registers) (message : Message) (counter : ℕ) → IsSound r → floor_in r ≤ counter → (enter : Option (Duty × Edge)) (accept : Option Edge)
    → EntersFit enter → IfSome accept IsEdge
    → MessageKeeps r message counter
    (map_or enter (map_or accept (quietly r) (λ edge. accepted r edge message counter)) (λ by. accepted (entered r by.0) by.1 message counter))
received_keeps r message counter sound due (Some p) accept enter_fits accept_fits =
    accepted_keeps r (entered r p.0) p.1 message counter
    (record { duty = enter_fits.0; given = tt; rates = enter_fits.0.rates; idle = λ none. cc })
    (inr refl) refl enter_fits.1 due
received_keeps r message counter sound due None (Some edge) enter_fits accept_fits =
    accepted_keeps r r edge message counter sound (inl refl) refl accept_fits due
received_keeps r message counter sound due None None enter_fits accept_fits =
    record {
      sound = sound;
      given = inl refl;
      floor = due;
      ceiling = omega arith;
      height = omega arith;
      clock = tt;
      stamp = tt;
    }

pub message_keeps : (old r new : Registers) (result : Effect) (link : ℕ) (message : Message) (counter : ℕ) → r ≡ old
    → new ≡ (called r (Receive link message counter)).0 → result ≡ (called r (Receive link message counter)).1 → IsSound r → floor_in old ≤ counter
    → MessageKeeps old message counter (new, result)
message_keeps old r new result link message counter same after sends sound due =
    let is : IsSound old = subst IsSound same sound in
    rw (after, sends, same)
    (received_keeps old message counter is due (entering old link message) (accepting old link message)
    (entering_fits old.given link message is.given) (accepting_fits old link message is))

-- where nothing was given nothing is entered
enters_nothing : (r : Registers) (link : ℕ) (message : Message) → r.given ≡ None → entering r link message ≡ None
enters_nothing r link message none = rw none refl

-- whom a device follows, and whether it acts, is the same
pub record FollowsAsBefore (r new : Registers) : Type 0 where
  pub parent : parent_in new ≡ parent_in r
  pub acts : acts_in new ≡ acts_in r

accepted_follows : (r : Registers) (message : Message) (counter : ℕ) (accept : Option Edge)
    → FollowsAsBefore r (map_or accept (quietly r) (λ edge. accepted r edge message counter)).0
accepted_follows r message counter None = record { parent = refl; acts = refl }
accepted_follows r message counter (Some edge) = record { parent = refl; acts = refl }

-- after a message so it is of a device that was given nothing
pub settled_follows : (r : Registers) (link : ℕ) (message : Message) (counter : ℕ) (effect : Effect) (new : Registers) → r.given ≡ None
    → called r (Receive link message counter) ≡ (new, effect) → FollowsAsBefore r new
settled_follows r link message counter effect new none is =
    subst (λ (by : Registers × Effect). FollowsAsBefore r by.0) is
    (rw (enters_nothing r link message none) (accepted_follows r message counter (accepting r link message)))

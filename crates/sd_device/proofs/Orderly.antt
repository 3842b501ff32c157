-- For every life whose counters never fall, the registers that its words define stand for it.
use Rattle.std.proofs.Common.{◌≡◌, ℕ, ◌+◌, ◌≤◌, Bool, true, false, List, [], ◌∷◌, Option, Some, None, refl, subst, arith}
use Rattle.std.specs.Prelude.{if◌then◌else◌}
use Rattle.sd_num.specs.Lists.{map_or}
use Rattle.sd_plan.specs.declared.Duty.{Duty}
use Rattle.sd_plan.specs.declared.Edge.{Edge}
use Rattle.sd_device.specs.declared.msg.Message.{Message}
use Rattle.sd_device.specs.msg.Stamps.{stamp}
use Rattle.sd_device.specs.declared.registers.Registers.{Registers}
use Rattle.sd_device.specs.declared.registers.Mode.TheVariants.{Acting}
use Rattle.sd_device.specs.declared.turns.Turn.{Turn}
use Rattle.sd_device.specs.declared.turns.Turn.TheVariants.{Emit, TakeOver, Move, Stay}
use Rattle.sd_device.specs.Calls.{Making, Call, Tick, Receive, Fix, Give, Commit, Seal}
use Rattle.sd_device.specs.Living.{Life}
use Rattle.sd_device.specs.Words.{counter_of}
use Rattle.sd_device.specs.Lives.{past_by, past_of, latest_counter, NeverFalls}
use Rattle.sd_device.specs.Rules.{turn_of, turned, called, entering, accepting, accepted, entered, quietly, committed, is_acting_mode}
use Rattle.sd_device.specs.Standing.{registers_of, last_of, StandsFor}
use Rattle.sd_device.proofs.Reached.{reached}
use Rattle.sd_device.proofs.Stands.{IsOrdered, IsDue, steps}

-- the latest counter that the device was given, after this call
abbrev pub latest_with : Call → ℕ → ℕ
latest_with call before = map_or (counter_of call) before (λ counter. counter)

turned_last : (r : Registers) (counter : ℕ) (turn : Turn) → r.last ≤ counter → (turned r counter turn).0.last ≤ counter
turned_last r counter Emit due = due
turned_last r counter TakeOver due = due
turned_last r counter Move due = omega arith
turned_last r counter Stay due = due

received_last : (r : Registers) (message : Message) (counter : ℕ) (enter : Option (Duty × Edge)) (accept : Option Edge) → r.last ≤ counter
    → (map_or enter (map_or accept (quietly r) (λ edge. accepted r edge message counter))
    (λ by. accepted (entered r by.0) by.1 message counter)).0.last ≤ counter
received_last r message counter (Some p) accept due = omega arith
received_last r message counter None (Some edge) due = omega arith
received_last r message counter None None due = due

committed_last : (r : Registers) (counter : ℕ) (given : Option Duty) → r.last ≤ counter → (map_or given r (committed r counter)).last ≤ counter
committed_last r counter None due = due
committed_last r counter (Some duty) due = go (is_acting_mode r.mode)
  where
    go : (acts : Bool)
        → (if acts then record r { duty = Some duty; given = None; sealed = false; rates = duty.rates } else record r {
          duty = Some duty;
          given = None;
          mode = Acting;
          sealed = false;
          stamp = stamp (r.stamp.term + 1) 0;
          sent = counter;
          rates = duty.rates;
        }).last ≤ counter
    go true = due
    go false = due

-- no call leaves a later counter than the latest
called_last : (r : Registers) (call : Call) (latest : ℕ) → r.last ≤ latest → ((counter : ℕ) → counter_of call ≡ Some counter → latest ≤ counter)
    → (called r call).0.last ≤ latest_with call latest
called_last r (Tick counter) latest kept later = turned_last r counter (turn_of r counter) (omega (arith, kept, later counter refl))
called_last r (Receive link message counter) latest kept later =
    received_last r message counter (entering r link message) (accepting r link message) (omega (arith, kept, later counter refl))
called_last r (Fix counter clock eps) latest kept later = omega (arith, kept, later counter refl)
called_last r (Give duty) latest kept later = kept
called_last r (Commit counter) latest kept later = committed_last r counter r.given (omega (arith, kept, later counter refl))
called_last r Seal latest kept later = kept

pub due_by : (last latest : ℕ) (counter : Option ℕ) → last ≤ latest → ((c : ℕ) → counter ≡ Some c → latest ≤ c) → IsDue last counter
due_by last latest None kept later = tt
due_by last latest (Some c) kept later = omega (arith, kept, later c refl)

pub record Orderly (making : Making) (calls : List Call) : Type 0 where
  pub order : IsOrdered (past_by making calls)
  pub kept : last_of (past_by making calls) ≤ latest_counter making calls

pub in_order : (making : Making) (calls : List Call) → NeverFalls making calls → Orderly making calls
in_order making [] falls = record { order = omega arith; kept = omega arith }
in_order making (call ∷ earlier) falls =
    let h = in_order making earlier falls.0 in
    let past = past_by making earlier in
    let s = steps past call (reached making earlier) h.order (due_by (last_of past) (latest_counter making earlier) (counter_of call) h.kept falls.1) in
    record {
      order = s.order;
      kept = subst (λ (r : Registers). r.last ≤ latest_with call (latest_counter making earlier)) s.registers
          (called_last (registers_of past) call (latest_counter making earlier) h.kept falls.1);
    }

pub orderly : (life : Life) → NeverFalls life.making life.calls → StandsFor (registers_of (past_of life)) life
orderly life falls = record { are = refl; in_order = (in_order life.making life.calls falls).order }

-- The registers go on standing for a life as a call is added to it, and send what its words say.
use Rattle.std.proofs.Common.{◌≡◌, ℕ, ◌-◌, ◌≤◌, Bool, true, false, ◌||◌, not, Option, Some, None, refl, sym, ◌∙◌, ap, subst, arith}
use Rattle.std.specs.Prelude.{is_some, nat_le, max, if◌then◌else◌}
use Rattle.std.proofs.lemmas.Bool.{false_from_ne_true}
use Rattle.sd_num.specs.Lists.{map_or}
use Rattle.sd_plan.specs.declared.Duty.{Duty}
use Rattle.sd_plan.specs.declared.Edge.{Edge}
use Rattle.sd_device.specs.declared.msg.Message.{Message}
use Rattle.sd_device.specs.declared.Effect.{Effect}
use Rattle.sd_device.specs.declared.Effect.TheVariants.{Quiet}
use Rattle.sd_device.specs.declared.registers.Registers.{Registers}
use Rattle.sd_device.specs.declared.registers.Mode.TheVariants.{Primary, Backup, Acting, Idle}
use Rattle.sd_device.specs.declared.turns.Turn.{Turn}
use Rattle.sd_device.specs.declared.turns.Turn.TheVariants.{Emit, TakeOver, Move, Stay}
use Rattle.sd_device.specs.Calls.{Call, Tick, Receive, Fix, Give, Commit, Seal, Transition, Committed, Recommitted, TookOver, Nothing, Past}
use Rattle.sd_device.specs.Living.{Life}
use Rattle.sd_device.specs.Words.{duty_now, given_now, is_acting, has_moved, heard, moved_at, sent_at, transition_of, after, later_entry, starts_as_root, is_commit, counter_of, effect_of, effect_of_latest}
use Rattle.sd_device.specs.Lives.{past_of, longer}
use Rattle.sd_device.specs.Rules.{turn_of, turned, called, entering, accepting, accepted, entered, quietly, committed, is_acting_mode}
use Rattle.sd_device.specs.Standing.{registers_of, last_of, mode_of, StandsFor}
use Rattle.sd_device.proofs.Reached.{Reached, added, reached}
use Rattle.sd_device.proofs.Receiving.{transition_by, receipts}
use Rattle.sd_device.proofs.Ticks.{transition_by_turn, ticks}

-- the rules make of the registers what the words say of the past with this call and what it did
pub record Steps (past : Past) (call : Call) (by : Registers × Effect) (transition : Transition) : Type 0 where
  pub registers : by.0 ≡ registers_of (added past call transition)
  pub effect : by.1 ≡ effect_of_latest (added past call transition) (record { call = call; transition = transition })
  pub order : last_of (added past call transition) ≡ max (heard (added past call transition)) (moved_at (added past call transition))

abbrev pub IsOrdered : Past → Type 0
IsOrdered past = last_of past ≡ max (heard past) (moved_at past)

or_true : (a : Bool) → (a || true) ≡ true
or_true true = refl
or_true false = refl

-- a later receipt or move is the latest
later_heard : (last heard moved counter : ℕ) → last ≡ max heard moved → last ≤ counter → counter ≡ max counter moved
later_heard last heard moved counter order due = omega (arith, order, due)

later_moved : (last heard moved counter : ℕ) → last ≡ max heard moved → last ≤ counter → counter ≡ max heard counter
later_moved last heard moved counter order due = omega (arith, order, due)

acting_moves_not : (duty : Option Duty) (sent counter : ℕ) → map_or duty Stay (λ d. if nat_le d.period (counter - sent) then Emit else Stay) ≡ Move → ⊥
acting_moves_not None sent counter moves = cc
acting_moves_not (Some d) sent counter moves = go (nat_le d.period (counter - sent)) moves
  where
    go : (due : Bool) → (if due then Emit else Stay) ≡ Move → ⊥
    go true is = cc
    go false is = cc

-- a device that moves does not act
moves_not_acting : (past : Past) (counter : ℕ) → turn_of (registers_of past) counter ≡ Move → is_acting past ≡ false
moves_not_acting past counter moves =
    false_from_ne_true (is_acting past) (λ acts. acting_moves_not (duty_now past) (sent_at past) counter (subst (λ (a : Bool).
    turn_of (record (registers_of past) { mode = if a then Acting else if has_moved past then Backup else map_or (duty_now past) Idle (λ duty. Primary) })
    counter ≡ Move) acts moves))

tick_steps : (past : Past) (counter : ℕ) → IsOrdered past → last_of past ≤ counter → (turn : Turn) → turn_of (registers_of past) counter ≡ turn
    → Steps past (Tick counter) (turned (registers_of past) counter turn) (transition_by_turn turn)
tick_steps past counter order due Emit is = record { registers = refl; effect = refl; order = order }
tick_steps past counter order due TakeOver is =
    let acts : is_acting (added past (Tick counter) TookOver) ≡ true =
    or_true (map_or (later_entry past) (starts_as_root past.making) (λ entry. is_commit entry.transition)) in
    record { registers = rw acts refl; effect = refl; order = order }
tick_steps past counter order due Move is =
    record {
      registers = rw (moves_not_acting past counter is) refl;
      effect = refl;
      order = later_moved (last_of past) (heard past) (moved_at past) counter order due;
    }
tick_steps past counter order due Stay is = record { registers = refl; effect = refl; order = order }

receive_steps : (past : Past) (link : ℕ) (message : Message) (counter : ℕ) → IsOrdered past → last_of past ≤ counter
    → (enter : Option (Duty × Edge)) (accept : Option Edge)
    → Steps past (Receive link message counter)
    (map_or enter (map_or accept (quietly (registers_of past)) (λ edge. accepted (registers_of past) edge message counter))
    (λ by. accepted (entered (registers_of past) by.0) by.1 message counter))
    (transition_by enter accept)
receive_steps past link message counter order due (Some p) accept =
    record { registers = refl; effect = refl; order = later_heard (last_of past) (heard past) (moved_at past) counter order due }
receive_steps past link message counter order due None (Some edge) =
    record { registers = refl; effect = refl; order = later_heard (last_of past) (heard past) (moved_at past) counter order due }
receive_steps past link message counter order due None None = record { registers = refl; effect = refl; order = order }

mode_acts : (acts moved : Bool) (duty : Option Duty)
    → is_acting_mode (if acts then Acting else if moved then Backup else map_or duty Idle (λ d. Primary)) ≡ acts
mode_acts true moved duty = refl
mode_acts false true duty = refl
mode_acts false false (Some duty) = refl
mode_acts false false None = refl

-- the mode says whether the device acts
pub acting_is : (past : Past) → is_acting_mode (mode_of past) ≡ is_acting past
acting_is past = mode_acts (is_acting past) (has_moved past) (duty_now past)

commit_steps : (past : Past) (counter : ℕ) → IsOrdered past → (given : Option Duty) (acts : Bool) → is_acting past ≡ acts
    → Steps past (Commit counter) (quietly (map_or given (registers_of past) (committed (registers_of past) counter)))
    (map_or given Nothing (λ duty. if acts then Recommitted duty else Committed duty))
commit_steps past counter order None acts is = record { registers = refl; effect = refl; order = order }
commit_steps past counter order (Some duty) true is = record { registers = rw (acting_is past ∙ is, is) refl; effect = refl; order = order }
commit_steps past counter order (Some duty) false is = record { registers = rw (acting_is past ∙ is) refl; effect = refl; order = order }

-- where a call has a counter, the device was neither made nor heard nor moved at a later one
abbrev pub IsDue : ℕ → Option ℕ → Type 0
IsDue last None = Unit {0}
IsDue last (Some counter) = last ≤ counter

seal_steps : (past : Past) → IsOrdered past → Steps past Seal (quietly (record (registers_of past) { sealed = true })) Nothing
seal_steps past order = record { registers = rw (or_true (not (is_some (later_entry past)))) refl; effect = refl; order = order }

pub steps : (past : Past) (call : Call) → Reached past → IsOrdered past → IsDue (last_of past) (counter_of call)
    → Steps past call (called (registers_of past) call) (transition_of past call)
steps past (Tick counter) h order due =
    subst (Steps past (Tick counter) (called (registers_of past) (Tick counter))) (sym (ticks past counter h order))
    (tick_steps past counter order due (turn_of (registers_of past) counter) refl)
steps past (Receive link message counter) h order due =
    subst (Steps past (Receive link message counter) (called (registers_of past) (Receive link message counter))) (sym (receipts past link message counter))
    (receive_steps past link message counter order due (entering (registers_of past) link message) (accepting (registers_of past) link message))
steps past (Fix counter clock eps) h order due = record { registers = refl; effect = refl; order = order }
steps past (Give duty) h order due = record { registers = refl; effect = refl; order = order }
steps past (Commit counter) h order due = commit_steps past counter order (given_now past) (is_acting past) refl
steps past Seal h order due = seal_steps past order

-- what is made of the registers stands for the life with this call, and it sends what the words say
pub record Stood (life : Life) (call : Call) (by : Registers × Effect) : Type 0 where
  pub stands : StandsFor by.0 (longer life call)
  pub sends : by.1 ≡ effect_of (past_of life) call

of_past : (life : Life) (call : Call) → IsOrdered (past_of life) → IsDue (last_of (past_of life)) (counter_of call)
    → Stood life call (called (registers_of (past_of life)) call)
of_past life call order due =
    let s : Steps (past_of life) call (called (registers_of (past_of life)) call) (transition_of (past_of life) call) =
    steps (past_of life) call (reached life.making life.calls) order due in
    record { stands = record { are = s.registers; in_order = s.order }; sends = s.effect }

pub stands_after : (r : Registers) (life : Life) (call : Call) → StandsFor r life → IsDue r.last (counter_of call) → Stood life call (called r call)
stands_after r life call h due =
    subst (λ (x : Registers). Stood life call (called x call)) (sym h.are)
    (of_past life call h.in_order (subst (λ (x : Registers). IsDue x.last (counter_of call)) h.are due))

-- the same where the registers were opened, and closed again
pub stood : (old r new : Registers) (result : Effect) (life : Life) (call : Call) → r ≡ old → new ≡ (called r call).0 → result ≡ (called r call).1
    → StandsFor old life → IsDue old.last (counter_of call) → Stood life call (new, result)
stood old r new result life call same after sends h due = rw (after, sends, same) (stands_after old life call h due)

-- A tick at which nothing is to be done

pub rested : (old r : Registers) (counter : ℕ) → r ≡ old → turn_of r counter ≡ Stay → called old (Tick counter) ≡ (old, Quiet)
rested old r counter same stays = subst (λ (x : Registers). called x (Tick counter) ≡ (x, Quiet)) same (ap (turned r counter) stays)

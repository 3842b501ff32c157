-- What is true of every past that a life has.
use Rattle.std.proofs.Common.{◌≡◌, ℕ, Bool, true, false, ◌||◌, ◌&&◌, ◌-◌, not, List, [], ◌∷◌, Option, Some, None, refl, sym, subst}
use Rattle.std.specs.Prelude.{nat_le, max, is_some, if◌then◌else◌, option_and_then}
use Rattle.std.specs.List.{list_any}
use Rattle.sd_num.specs.Lists.{map_or}
use Rattle.sd_plan.specs.declared.Duty.{Duty}
use Rattle.sd_plan.specs.declared.Edge.{Edge}
use Rattle.sd_device.specs.declared.msg.Message.{Message}
use Rattle.sd_device.specs.Calls.{Making, Call, Tick, Receive, Fix, Give, Commit, Seal, Transition, Committed, Recommitted, Moved, TookOver, Emitted, Nothing, Past}
use Rattle.sd_device.specs.Rules.{entering, accepting}
use Rattle.sd_device.proofs.Receiving.{transition_by, receipts}
use Rattle.sd_device.specs.Words.{since_entry, later_entry, duty_now, is_seal, is_sealed, has_moved, is_takeover, is_acting, may_move, wait_to_move, heard, moved_at, transition_of, after, emits_at, takes_over_at, moves_at, is_backup_root_now, given_now}
use Rattle.sd_device.specs.Lives.{past_by}
use Rattle.sd_device.specs.Standing.{last_of, registers_of}

-- the past with one call more, that did this
abbrev pub added : Past → Call → Transition → Past
added past call transition = record { making = past.making; did = record { call = call; transition = transition } ∷ past.did }

-- the device took over since its entry
abbrev pub has_taken_over : Past → Bool
has_taken_over past = list_any (λ x. is_takeover x.transition) (since_entry past)

pub record Reached (past : Past) : Type 0 where
  pub took_over : has_taken_over past ≡ true → has_moved past ≡ true
  pub sealed : has_moved past ≡ true → is_sealed past ≡ true
  pub heard_last : may_move past ≡ true → has_moved past ≡ false → last_of past ≡ heard past

made_reached : (making : Making) → Reached (record { making = making; did = [] })
made_reached making = record { took_over = λ h. cc; sealed = λ h. cc; heard_last = λ h i. refl }

pub or-more : (a b c : Bool) → (a || c) ≡ true → (a || (b || c)) ≡ true
or-more true b c h = refl
or-more false true c h = refl
or-more false false c h = h

-- a call that did nothing that counts here
nothing_reached : (past : Past) (call : Call) → Reached past → Reached (added past call Nothing)
nothing_reached past call h =
    record {
      took_over = h.took_over;
      sealed = λ moved. or-more (not (is_some (later_entry past))) (is_seal call) (list_any (λ x. is_seal x.call) (since_entry past)) (h.sealed moved);
      heard_last = h.heard_last;
    }

second_of_four : (a b c d : Bool) → (a && b && c && d) ≡ true → b ≡ true
second_of_four true true c d h = refl
second_of_four true false c d h = h
second_of_four false b c d h = cc

third_of_four : (a b c d : Bool) → (a && b && c && d) ≡ true → c ≡ true
third_of_four true true true d h = refl
third_of_four true true false d h = h
third_of_four true false c d h = cc
third_of_four false b c d h = cc

tick_reached : (past : Past) (counter : ℕ) → Reached past → Reached (added past (Tick counter) (transition_of past (Tick counter)))
tick_reached past counter h =
    go (emits_at past counter) (takes_over_at past counter) (moves_at past counter)
    (second_of_four (is_backup_root_now past) (has_moved past) (not (is_acting past))
    (map_or (duty_now past) false (λ duty. nat_le duty.wait_second (counter - max (heard past) (moved_at past)))))
    (third_of_four (may_move past) (not (has_moved past)) (is_sealed past)
    (map_or (option_and_then wait_to_move (duty_now past)) false (λ wait. nat_le wait (counter - heard past))))
  where
    go : (emits takes moves : Bool) → (takes ≡ true → has_moved past ≡ true) → (moves ≡ true → is_sealed past ≡ true)
        → Reached (added past (Tick counter) (if emits then Emitted else if takes then TookOver else if moves then Moved else Nothing))
    go true takes moves moved sealed = record { took_over = h.took_over; sealed = h.sealed; heard_last = h.heard_last }
    go false true moves moved sealed = record { took_over = λ i. moved refl; sealed = h.sealed; heard_last = h.heard_last }
    go false false true moved sealed = record { took_over = λ i. refl; sealed = λ i. sealed refl; heard_last = λ i j. cc }
    go false false false moved sealed = record { took_over = h.took_over; sealed = h.sealed; heard_last = h.heard_last }

received_reached : (past : Past) (link : ℕ) (message : Message) (counter : ℕ) → Reached past
    → Reached (added past (Receive link message counter) (transition_of past (Receive link message counter)))
received_reached past link message counter h =
    subst (λ transition. Reached (added past (Receive link message counter) transition)) (sym (receipts past link message counter))
    (go (entering (registers_of past) link message) (accepting (registers_of past) link message))
  where
    go : (enter : Option (Duty × Edge)) (accept : Option Edge) → Reached (added past (Receive link message counter) (transition_by enter accept))
    go (Some p) accept = record { took_over = λ i. cc; sealed = λ i. cc; heard_last = λ i j. refl }
    go None (Some edge) = record { took_over = h.took_over; sealed = h.sealed; heard_last = λ i j. refl }
    go None None = record { took_over = h.took_over; sealed = h.sealed; heard_last = h.heard_last }

committed_reached : (past : Past) (counter : ℕ) → Reached past → Reached (added past (Commit counter) (transition_of past (Commit counter)))
committed_reached past counter h = go (given_now past) (is_acting past)
  where
    go : (given : Option Duty) (acts : Bool)
        → Reached (added past (Commit counter) (map_or given Nothing (λ duty. if acts then Recommitted duty else Committed duty)))
    go None acts = record { took_over = h.took_over; sealed = h.sealed; heard_last = h.heard_last }
    go (Some duty) true = record { took_over = λ i. cc; sealed = λ i. cc; heard_last = λ i j. cc }
    go (Some duty) false = record { took_over = λ i. cc; sealed = λ i. cc; heard_last = λ i j. cc }

after_reached : (past : Past) (call : Call) → Reached past → Reached (after past call)
after_reached past (Tick counter) h = tick_reached past counter h
after_reached past (Receive link message counter) h = received_reached past link message counter h
after_reached past (Fix counter clock eps) h = nothing_reached past (Fix counter clock eps) h
after_reached past (Give duty) h = nothing_reached past (Give duty) h
after_reached past (Commit counter) h = committed_reached past counter h
after_reached past Seal h = nothing_reached past Seal h

-- each past of a life is such
pub reached : (making : Making) (calls : List Call) → Reached (past_by making calls)
reached making [] = made_reached making
reached making (call ∷ earlier) = after_reached (past_by making earlier) call (reached making earlier)

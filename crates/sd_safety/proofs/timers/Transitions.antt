-- What a call can do, by its kind: a statement on each call with its transition is proved by nine cases.
use Rattle.std.specs.Prelude.{◌≡◌, ℕ, Bool, true, false, Option, Some, None, is_some, refl, if◌then◌else◌}
use Rattle.std.proofs.Common.{sym, subst}
use Rattle.sd_num.specs.Lists.{map_or}
use Rattle.sd_plan.specs.declared.Duty.{Duty}
use Rattle.sd_plan.specs.declared.Edge.{Edge}
use Rattle.sd_device.specs.declared.msg.Message.{Message}
use Rattle.sd_device.specs.Calls.{Call, Tick, Receive, Fix, Give, Commit, Seal, Transition, Entered, Committed, Recommitted, Accepted, Moved, TookOver, Emitted, Nothing, Past}
use Rattle.sd_device.specs.Words.{transition_of, emits_at, takes_over_at, moves_at, given_now, is_acting, accepted_over, is_move}
use Rattle.sd_device.specs.Rules.{entering, accepting}
use Rattle.sd_device.specs.Standing.{registers_of}
use Rattle.sd_device.proofs.Receiving.{transition_by, receipts}
use Rattle.sd_safety.specs.timers.Times.{is_tick, did_by, hears, moves}

-- the nine cases
pub record Cases (past : Past) (P : Call → Transition → Type 0) : Type 0 where
  pub emitted : (c : ℕ) → emits_at past c ≡ true → P (Tick c) Emitted
  pub took : (c : ℕ) → emits_at past c ≡ false → takes_over_at past c ≡ true → P (Tick c) TookOver
  pub moved : (c : ℕ) → emits_at past c ≡ false → takes_over_at past c ≡ false → moves_at past c ≡ true → P (Tick c) Moved
  pub still : (c : ℕ) → emits_at past c ≡ false → takes_over_at past c ≡ false → moves_at past c ≡ false → P (Tick c) Nothing
  pub entered : (link : ℕ) (message : Message) (c : ℕ) (duty : Duty) (edge : Edge) → P (Receive link message c) (Entered duty edge)
  pub accepted : (link : ℕ) (message : Message) (c : ℕ) (edge : Edge) → P (Receive link message c) (Accepted edge)
  pub committed : (c : ℕ) (duty : Duty) → is_acting past ≡ false → P (Commit c) (Committed duty)
  pub recommitted : (c : ℕ) (duty : Duty) → is_acting past ≡ true → P (Commit c) (Recommitted duty)
  pub nothing : (call : Call) → is_tick call ≡ false → P call Nothing

tick_case : (past : Past) (P : Call → Transition → Type 0) → Cases past P → (c : ℕ) (a t m : Bool) → emits_at past c ≡ a → takes_over_at past c ≡ t
    → moves_at past c ≡ m
    → P (Tick c) (if a then Emitted else if t then TookOver else if m then Moved else Nothing)
tick_case past P cases c true t m ea et em = cases.emitted c ea
tick_case past P cases c false true m ea et em = cases.took c ea et
tick_case past P cases c false false true ea et em = cases.moved c ea et em
tick_case past P cases c false false false ea et em = cases.still c ea et em

receipt_case : (past : Past) (P : Call → Transition → Type 0) → Cases past P
    → (link : ℕ) (message : Message) (c : ℕ) (enter : Option (Duty × Edge)) (accept : Option Edge)
    → P (Receive link message c) (transition_by enter accept)
receipt_case past P cases link message c (Some by) accept = cases.entered link message c by.0 by.1
receipt_case past P cases link message c None (Some edge) = cases.accepted link message c edge
receipt_case past P cases link message c None None = cases.nothing (Receive link message c) refl

commit_case : (past : Past) (P : Call → Transition → Type 0) → Cases past P → (c : ℕ) (given : Option Duty) (a : Bool) → is_acting past ≡ a
    → P (Commit c) (map_or given Nothing (λ duty. if a then Recommitted duty else Committed duty))
commit_case past P cases c None a ea = cases.nothing (Commit c) refl
commit_case past P cases c (Some duty) true ea = cases.recommitted c duty ea
commit_case past P cases c (Some duty) false ea = cases.committed c duty ea

pub by_case : (past : Past) (P : Call → Transition → Type 0) → Cases past P → (call : Call) → P call (transition_of past call)
by_case past P cases (Tick c) = tick_case past P cases c (emits_at past c) (takes_over_at past c) (moves_at past c) refl refl refl
by_case past P cases (Receive link message c) =
    subst (λ transition. P (Receive link message c) transition) (sym (receipts past link message c))
    (receipt_case past P cases link message c (entering (registers_of past) link message) (accepting (registers_of past) link message))
by_case past P cases (Fix c clock eps) = cases.nothing (Fix c clock eps) refl
by_case past P cases (Give duty) = cases.nothing (Give duty) refl
by_case past P cases (Commit c) = commit_case past P cases c (given_now past) (is_acting past) refl
by_case past P cases Seal = cases.nothing Seal refl

-- On what a call did, the words on counters tell something just where the transition is of that kind: such a call has a counter.

pub heard_counts : (past : Past) (call : Call) → is_some (hears (did_by past call)) ≡ is_some (accepted_over (transition_of past call))
heard_counts past call =
    by_case past (λ c transition. is_some (hears (record { call = c; transition = transition })) ≡ is_some (accepted_over transition))
    (record {
      emitted = λ c e. refl;
      took = λ c e t. refl;
      moved = λ c e t m. refl;
      still = λ c e t m. refl;
      entered = λ link message c duty edge. refl;
      accepted = λ link message c edge. refl;
      committed = λ c duty a. refl;
      recommitted = λ c duty a. refl;
      nothing = λ call n. refl;
    })
    call

pub move_counts : (past : Past) (call : Call) → is_some (moves (did_by past call)) ≡ is_move (transition_of past call)
move_counts past call =
    by_case past (λ c transition. is_some (moves (record { call = c; transition = transition })) ≡ is_move transition)
    (record {
      emitted = λ c e. refl;
      took = λ c e t. refl;
      moved = λ c e t m. refl;
      still = λ c e t m. refl;
      entered = λ link message c duty edge. refl;
      accepted = λ link message c edge. refl;
      committed = λ c duty a. refl;
      recommitted = λ c duty a. refl;
      nothing = λ call n. refl;
    })
    call

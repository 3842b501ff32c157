-- Which call a move, a takeover or an emission is; how a device comes to its backup and to acting; and how it stands after an entry. By the nine cases.
use Rattle.std.specs.Prelude.{◌≡◌, ℕ, true, false, refl}
use Rattle.std.proofs.Common.{sym, subst}
use Rattle.std.proofs.lemmas.Bool.{both_ways}
use Rattle.sd_plan.specs.declared.Duty.{Duty}
use Rattle.sd_plan.specs.declared.Edge.{Edge}
use Rattle.sd_device.specs.Calls.{Call, Tick, Transition, Entered, Committed, Recommitted, Moved, TookOver, Emitted, Past}
use Rattle.sd_device.specs.Words.{transition_of, after, has_moved, is_acting, emits_at, takes_over_at, moves_at}
use Rattle.sd_device.proofs.Reached.{added}
use Rattle.sd_safety.proofs.timers.Transitions.{Cases, by_case}

-- a call with this transition is a tick, and the words say so
pub record IsMove (past : Past) (call : Call) : Type 0 where
  pub counter : ℕ
  pub tick : call ≡ Tick counter
  pub moves : moves_at past counter ≡ true

pub record IsTakeover (past : Past) (call : Call) : Type 0 where
  pub counter : ℕ
  pub tick : call ≡ Tick counter
  pub takes : takes_over_at past counter ≡ true

pub record IsEmission (past : Past) (call : Call) : Type 0 where
  pub counter : ℕ
  pub tick : call ≡ Tick counter
  pub emits : emits_at past counter ≡ true

move_cases : (past : Past) → Cases past (λ call transition. transition ≡ Moved → IsMove past call)
move_cases past =
    record {
      emitted = λ c e is. cc;
      took = λ c e t is. cc;
      moved = λ c e t m is. record { counter = c; tick = refl; moves = m };
      still = λ c e t m is. cc;
      entered = λ link message c duty edge is. cc;
      accepted = λ link message c edge is. cc;
      committed = λ c duty a is. cc;
      recommitted = λ c duty a is. cc;
      nothing = λ call n is. cc;
    }

pub is_move : (past : Past) (call : Call) → transition_of past call ≡ Moved → IsMove past call
is_move past call is = by_case past (λ c transition. transition ≡ Moved → IsMove past c) (move_cases past) call is

takeover_cases : (past : Past) → Cases past (λ call transition. transition ≡ TookOver → IsTakeover past call)
takeover_cases past =
    record {
      emitted = λ c e is. cc;
      took = λ c e t is. record { counter = c; tick = refl; takes = t };
      moved = λ c e t m is. cc;
      still = λ c e t m is. cc;
      entered = λ link message c duty edge is. cc;
      accepted = λ link message c edge is. cc;
      committed = λ c duty a is. cc;
      recommitted = λ c duty a is. cc;
      nothing = λ call n is. cc;
    }

pub is_takeover : (past : Past) (call : Call) → transition_of past call ≡ TookOver → IsTakeover past call
is_takeover past call is = by_case past (λ c transition. transition ≡ TookOver → IsTakeover past c) (takeover_cases past) call is

emission_cases : (past : Past) → Cases past (λ call transition. transition ≡ Emitted → IsEmission past call)
emission_cases past =
    record {
      emitted = λ c e is. record { counter = c; tick = refl; emits = e };
      took = λ c e t is. cc;
      moved = λ c e t m is. cc;
      still = λ c e t m is. cc;
      entered = λ link message c duty edge is. cc;
      accepted = λ link message c edge is. cc;
      committed = λ c duty a is. cc;
      recommitted = λ c duty a is. cc;
      nothing = λ call n is. cc;
    }

pub is_emission : (past : Past) (call : Call) → transition_of past call ≡ Emitted → IsEmission past call
is_emission past call is = by_case past (λ c transition. transition ≡ Emitted → IsEmission past c) (emission_cases past) call is

-- a device that comes to its backup moved with this call
comes_to_backup : (past : Past) (call : Call) (transition : Transition) → has_moved past ≡ false → has_moved (added past call transition) ≡ true
    → transition ≡ Moved
comes_to_backup past call (Entered duty edge) still moved = cc
comes_to_backup past call (Committed duty) still moved = cc
comes_to_backup past call (Recommitted duty) still moved = cc
comes_to_backup past call Moved still moved = refl
comes_to_backup past call _ still moved = absurd (both_ways (has_moved past) still moved)

pub backup_by_move : (past : Past) (call : Call) → has_moved past ≡ false → has_moved (after past call) ≡ true → transition_of past call ≡ Moved
backup_by_move past call still moved = comes_to_backup past call (transition_of past call) still moved

-- what makes a device act that did not: a takeover, or a commit
pub data BeganToAct : Transition → Type 0 where
  by_takeover : BeganToAct TookOver
  by_commit : (duty : Duty) → BeganToAct (Committed duty)

comes_to_act : (past : Past) → Cases past (λ call transition. is_acting past ≡ false → is_acting (added past call transition) ≡ true → BeganToAct transition)
comes_to_act past =
    record {
      emitted = λ c e still acts. absurd (both_ways (is_acting past) still acts);
      took = λ c e t still acts. by_takeover;
      moved = λ c e t m still acts. absurd (both_ways (is_acting past) still acts);
      still = λ c e t m still acts. absurd (both_ways (is_acting past) still acts);
      entered = λ link message c duty edge still acts. cc;
      accepted = λ link message c edge still acts. absurd (both_ways (is_acting past) still acts);
      committed = λ c duty a still acts. by_commit duty;
      recommitted = λ c duty a still acts. absurd (both_ways (is_acting past) still a);
      nothing = λ call n still acts. absurd (both_ways (is_acting past) still acts);
    }

pub began_to_act : (past : Past) (call : Call) → is_acting past ≡ false → is_acting (after past call) ≡ true → BeganToAct (transition_of past call)
began_to_act past call still acts =
    by_case past (λ c transition. is_acting past ≡ false → is_acting (added past c transition) ≡ true
    → BeganToAct transition) (comes_to_act past) call still acts

-- after an entering receipt a device is on its primary and not sealed, after a commit it acts
pub record Entering (past : Past) : Type 0 where
  pub unmoved : has_moved past ≡ false
  pub acts_not : is_acting past ≡ false

pub after_entering : (past : Past) (call : Call) (duty : Duty) (edge : Edge) → transition_of past call ≡ Entered duty edge → Entering (after past call)
after_entering past call duty edge is =
    subst (λ transition. Entering (added past call transition)) (sym is) (record { unmoved = refl; acts_not = refl })

pub record Committing (past : Past) : Type 0 where
  pub unmoved : has_moved past ≡ false
  pub acts : is_acting past ≡ true

pub after_commit : (past : Past) (call : Call) (duty : Duty) → transition_of past call ≡ Committed duty → Committing (after past call)
after_commit past call duty is = subst (λ transition. Committing (added past call transition)) (sym is) (record { unmoved = refl; acts = refl })

pub after_recommit : (past : Past) (call : Call) (duty : Duty) → transition_of past call ≡ Recommitted duty → Committing (after past call)
after_recommit past call duty is = subst (λ transition. Committing (added past call transition)) (sym is) (record { unmoved = refl; acts = refl })

-- A backup root that has moved and has heard nothing: it rests until its second wait is over since the move, and then takes over.
use Rattle.std.specs.Prelude.{◌≡◌, ℕ, ◌-◌, true, false, ◌||◌, max, nat_le, None, is_some, option_and_then, refl}
use Rattle.std.proofs.Common.{ap, ◌∙◌, arith}
use Rattle.std.proofs.lemmas.Bool.{not-true}
use Rattle.sd_plan.specs.declared.Duty.{Duty}
use Rattle.sd_plan.specs.declared.Role.TheVariants.{BackupRoot}
use Rattle.sd_num.proofs.Shared.{none_if_not_some}
use Rattle.sd_device.specs.Calls.{Started, Call, Tick, Past, Transition, Nothing, Moved, TookOver}
use Rattle.sd_device.specs.Words.{accepted_over, counter_of, starts_as_root, is_takeover, duty_given, heard, has_moved, moved_at, is_acting, emits_at, takes_over_at, transition_of, after}
use Rattle.sd_beside.proofs.needed.Pasts.{latest_none, duty_is}
use Rattle.sd_beside.proofs.needed.Turns.{acting_after}
use Rattle.sd_beside.proofs.needed.Still.{Still}
use Rattle.sd_beside.proofs.needed.Deaf.{heard_nothing, Settled, moved_as_before, settled_on, moved_settled}

-- the device moved at this counter, and has heard nothing
pub record HasMovedAt (duty : Duty) (c : ℕ) (past : Past) : Type 0 where
  pub settled : Settled duty duty.backup past
  pub moved : has_moved past ≡ true
  pub at : moved_at past ≡ c

-- one that has just moved
pub moved_now : (duty : Duty) (past : Past) (counter : ℕ) → Still duty past → starts_as_root (Started duty 0 0 0) ≡ false
    → transition_of past (Tick counter) ≡ Moved → HasMovedAt duty counter (after past (Tick counter))
moved_now duty past counter still other moves =
    record {
      settled = moved_settled duty past counter still other moves;
      moved = rw moves refl;
      at = rw moves refl;
    }

module _ (duty : Duty) (c : ℕ) (past : Past) (has : HasMovedAt duty c past) where
  heard_never : heard past ≡ 0
  heard_never =
      latest_none heard_nothing (λ x. option_and_then (λ edge. counter_of x.call) (accepted_over x.transition)) _ past.did
      (λ x none. ap (option_and_then (λ edge. counter_of x.call)) (none_if_not_some (accepted_over x.transition) (not-true (is_some (accepted_over x.transition)) none)))
      has.settled.heard
      ∙ rw has.settled.plain.made refl

  -- a call that does nothing leaves it so
  pub moved_on : (call : Call) → transition_of past call ≡ Nothing → duty_given call ≡ None → HasMovedAt duty c (after past call)
  moved_on call stays gives =
      record {
        settled = settled_on duty duty.backup past has.settled call stays gives;
        moved = moved_as_before duty duty.backup past has.settled call stays gives ∙ has.moved;
        at = rw stays has.at;
      }

  -- when it takes over
  pub takes_over_when : (counter : ℕ) → duty.role ≡ BackupRoot → takes_over_at past counter ≡ nat_le duty.wait_second (counter - c)
  takes_over_when counter role =
      let since : max (heard past) (moved_at past) ≡ c = (let never = heard_never in let at = has.at in omega (arith, never, at)) in
      rw (duty_is duty past has.settled.plain, role, has.moved, has.settled.idle, since) refl

  -- then it acts
  pub acts_then : (counter : ℕ) → takes_over_at past counter ≡ true → is_acting (after past (Tick counter)) ≡ true
  acts_then counter now =
      let no_emission : emits_at past counter ≡ false = rw has.settled.idle refl in
      let takes : transition_of past (Tick counter) ≡ TookOver = rw (no_emission, now) refl in
      acting_after duty past (Tick counter) has.settled.plain (rw takes refl)
      ∙ ap (λ (t : Transition). is_takeover t || is_acting past) takes

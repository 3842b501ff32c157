-- A device that has done nothing since its start: what its words are, and what a tick or a receipt does.
use Rattle.std.specs.Prelude.{◌≡◌, ◌≢◌, ℕ, ◌-◌, Bool, true, false, ◌&&◌, not, List, [], ◌∷◌, max, nat_eq, nat_le, Option, Some, None, is_some, option_map, option_and_then, refl, if◌then◌else◌}
use Rattle.std.specs.List.{list_all}
use Rattle.std.proofs.Common.{ap, ◌∙◌, arith}
use Rattle.std.proofs.lemmas.Bool.{and_parts, and_from, ne_eqb, not-true}
use Rattle.sd_num.specs.Lists.{map_or}
use Rattle.sd_plan.specs.declared.Duty.{Duty}
use Rattle.sd_plan.specs.declared.Edge.{Edge}
use Rattle.sd_plan.specs.declared.Role.TheVariants.{Ordinary}
use Rattle.sd_num.proofs.Shared.{none_if_not_some}
use Rattle.sd_device.specs.declared.msg.Message.{Message}
use Rattle.sd_device.specs.msg.Stamps.{is_newer}
use Rattle.sd_device.specs.declared.Effect.{Effect}
use Rattle.sd_device.specs.declared.Effect.TheVariants.{Quiet, Send}
use Rattle.sd_beside.proofs.needed.Pasts.{latest_none, any_none, is_plain, Plain, no_entry, since_is, duty_is, given_none}
use Rattle.sd_device.specs.Calls.{Started, Call, Tick, Receive, CallDone, Past, Transition, Moved, Nothing}
use Rattle.sd_device.specs.Words.{taken_up, accepted_over, counter_of, is_move, is_takeover, duty_given, duty_now, heard, has_moved, is_acting, is_sealed, may_move, moved_at, starts_as_root, parent_edge, parent_now, wait_to_move, emits_at, takes_over_at, moves_at, is_backup_root_now, transition_of, after, effect_of, accepted_by, entered_by, over_link, epoch_now, stamp_now}

abbrev pub is_nothing : Transition → Bool
is_nothing Nothing = true
is_nothing _ = false

-- the call did nothing, and gave no duty
abbrev pub did_nothing : CallDone → Bool
did_nothing x = is_nothing x.transition && not (is_some (duty_given x.call))

-- the device was started with this duty at counter 0, and has done nothing since
pub record Still (duty : Duty) (past : Past) : Type 0 where
  pub made : past.making ≡ Started duty 0 0 0
  pub did : list_all did_nothing past.did ≡ true

pub nothing_is : (t : Transition) → is_nothing t ≡ true → t ≡ Nothing
nothing_is Nothing is = refl
nothing_is _ is = cc

record Nought (x : CallDone) : Type 0 where
  pub transition : x.transition ≡ Nothing
  pub call : duty_given x.call ≡ None

nought : (x : CallDone) → did_nothing x ≡ true → Nought x
nought x is =
    let (front, back) = and_parts (is_nothing x.transition) (not (is_some (duty_given x.call))) is in
    record { transition = nothing_is x.transition front; call = none_if_not_some (duty_given x.call) (not-true (is_some (duty_given x.call)) back) }

-- so it is plain
pub still_plain : (duty : Duty) (past : Past) → Still duty past → Plain duty past
still_plain duty past still = record { made = still.made; did = all_plain past.did still.did }
  where
    all_plain : (did : List CallDone) → list_all did_nothing did ≡ true → list_all is_plain did ≡ true
    all_plain [] all = refl
    all_plain (x ∷ xs) all =
        let (here, rest) = and_parts (did_nothing x) (list_all did_nothing xs) all in
        let n : Nought x = nought x here in
        let same : is_plain x ≡ true = rw (n.transition, n.call) refl in
        and_from (is_plain x) (list_all is_plain xs) same (all_plain xs rest)

-- who is ordinary does not start as root
pub ordinary_starts : (duty : Duty) → duty.role ≡ Ordinary → starts_as_root (Started duty 0 0 0) ≡ false
ordinary_starts duty ordinary = rw ordinary refl

module _ (duty : Duty) (past : Past) (still : Still duty past) (other : starts_as_root (Started duty 0 0 0) ≡ false) where
  plain : Plain duty past
  plain = still_plain duty past still

  pub not_acting : is_acting past ≡ false
  not_acting =
      rw (no_entry duty past plain, since_is duty past plain, still.made, other)
      (any_none did_nothing (λ x. is_takeover x.transition) past.did (λ x n. ap is_takeover (nought x n).transition) still.did)

  pub not_moved : has_moved past ≡ false
  not_moved = rw (since_is duty past plain) (any_none did_nothing (λ x. is_move x.transition) past.did (λ x n. ap is_move (nought x n).transition) still.did)

  pub heard_at_start : heard past ≡ 0
  heard_at_start =
      latest_none did_nothing (λ x. option_and_then (λ edge. counter_of x.call) (accepted_over x.transition)) _ past.did
      (λ x n. ap (λ t. option_and_then (λ edge. counter_of x.call) (accepted_over t)) (nought x n).transition) still.did
      ∙ rw still.made refl

  pub sealed : is_sealed past ≡ true
  sealed = rw (no_entry duty past plain) refl

  pub movable : may_move past ≡ true
  movable = rw (no_entry duty past plain, still.made) refl

  pub on_primary : parent_edge past ≡ duty.primary
  on_primary = rw (not_acting, not_moved, duty_is duty past plain) refl

  moves_when : (counter : ℕ) → moves_at past counter ≡ map_or (wait_to_move duty) false (λ wait. nat_le wait counter)
  moves_when counter =
      let same : counter - 0 ≡ counter = omega arith in
      rw (movable, not_moved, sealed, duty_is duty past plain, heard_at_start, same) refl

  -- a tick is a move or nothing
  tick_by : (counter : ℕ) (late : Bool) → map_or (wait_to_move duty) false (λ wait. nat_le wait counter) ≡ late
      → transition_of past (Tick counter) ≡ (if late then Moved else Nothing)
  tick_by counter late is =
      let no_emission : emits_at past counter ≡ false = rw not_acting refl in
      let no_takeover : takes_over_at past counter ≡ false = rw not_moved (no_backup (is_backup_root_now past)) in
      rw (no_emission, no_takeover, moves_when counter, is) refl
    where
      no_backup : (b : Bool) → (b && false && not (is_acting past)
          && map_or (duty_now past) false (λ duty. nat_le duty.wait_second (counter - max (heard past) (moved_at past)))) ≡ false
      no_backup true = refl
      no_backup false = refl

  -- a tick before its wait is over
  pub tick_stays : (counter : ℕ) → map_or (wait_to_move duty) false (λ wait. nat_le wait counter) ≡ false → transition_of past (Tick counter) ≡ Nothing
  tick_stays counter early = tick_by counter false early

  -- a tick when its wait is over
  pub tick_moves : (counter : ℕ) → map_or (wait_to_move duty) false (λ wait. nat_le wait counter) ≡ true → transition_of past (Tick counter) ≡ Moved
  tick_moves counter late = tick_by counter true late

  -- a receipt over another link than its primary one
  pub receipt_stays : (link : ℕ) (message : Message) (counter : ℕ) → ((edge : Edge) → duty.primary ≡ Some edge → edge.link ≢ link)
      → transition_of past (Receive link message counter) ≡ Nothing
  receipt_stays link message counter other =
      let no_entering : entered_by past link message ≡ None = rw (given_none duty past plain) refl in
      let over : option_and_then (over_link link) (parent_edge past) ≡ None = rw on_primary (elsewhere duty.primary refl) in
      let refused : accepted_by past link message ≡ None = rw over
      (either (nat_eq (epoch_now past) message.epoch && is_newer message.stamp (stamp_now past))) in
      rw (no_entering, refused) refl
    where
      elsewhere : (o : Option Edge) → duty.primary ≡ o → option_and_then (over_link link) o ≡ None
      elsewhere None is = refl
      elsewhere (Some edge) is = rw (ne_eqb edge.link link (other edge is)) refl

      either : (b : Bool) → ◌≡◌ {A = Option Transition} (if b then None else None) None
      either true = refl
      either false = refl

-- a device that goes on doing nothing
pub still_on : (duty : Duty) (past : Past) (call : Call) → Still duty past → transition_of past call ≡ Nothing → duty_given call ≡ None
    → Still duty (after past call)
still_on duty past call still stays gives =
    record {
      made = still.made;
      did = and_from (did_nothing (record { call = call; transition = transition_of past call })) (list_all did_nothing past.did) (rw (stays, gives) refl)
          still.did;
    }

-- and sends nothing
pub sends_nothing : (past : Past) (call : Call) → transition_of past call ≡ Nothing → effect_of past call ≡ Quiet
sends_nothing past call stays = rw stays refl

-- a still device follows its primary parent
pub follows_primary : (duty : Duty) (past : Past) → Still duty past → starts_as_root (Started duty 0 0 0) ≡ false
    → parent_now past ≡ option_map (λ edge. edge.parent) duty.primary
follows_primary duty past still other = ap (option_map (λ edge. edge.parent)) (on_primary duty past still other)

-- one that has moved follows its backup parent, and the move sent nothing
pub record HasJustMoved (duty : Duty) (past : Past) (call : Call) : Type 0 where
  pub edge : parent_edge (after past call) ≡ duty.backup
  pub parent : parent_now (after past call) ≡ option_map (λ edge. edge.parent) duty.backup
  pub quiet : effect_of past call ≡ Quiet

pub just_moved : (duty : Duty) (past : Past) (counter : ℕ) → Still duty past → starts_as_root (Started duty 0 0 0) ≡ false
    → transition_of past (Tick counter) ≡ Moved
    → HasJustMoved duty past (Tick counter)
just_moved duty past counter still other moves =
    record {
      edge = on_backup;
      parent = ap (option_map (λ (edge : Edge). edge.parent)) on_backup;
      quiet = rw moves refl;
    }
  where
    on_backup : parent_edge (after past (Tick counter)) ≡ duty.backup
    on_backup =
        let acting : is_acting (after past (Tick counter)) ≡ false =
        rw (moves, no_entry duty past (still_plain duty past still), since_is duty past (still_plain duty past still), still.made, other)
        (any_none did_nothing (λ x. is_takeover x.transition) past.did (λ x n. ap is_takeover (nought x n).transition) still.did) in
        let moved : has_moved (after past (Tick counter)) ≡ true = rw moves refl in
        let duty_still : duty_now (after past (Tick counter)) ≡ Some duty =
        ap (λ (t : Transition). map_or (option_map Some (taken_up t)) (duty_now past) (λ told. told)) moves
        ∙ duty_is duty past (still_plain duty past still) in
        rw (acting, moved, duty_still) refl

-- what sends nothing sends no message
pub not_sent : {m : Message} {effect : Effect} → effect ≡ Quiet → effect ≡ Send m → ⊥
not_sent quiet sent = cc

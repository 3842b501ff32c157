-- A device that is settled on a hop over which nothing comes: no call makes it hear.
use Rattle.std.specs.Prelude.{◌≡◌, ◌≢◌, ℕ, Bool, true, false, ◌&&◌, ◌||◌, not, List, [], ◌∷◌, ◌⊎◌, nat_eq, Option, Some, None, is_some, option_and_then, refl, if◌then◌else◌}
use Rattle.std.specs.List.{list_any, list_all}
use Rattle.std.proofs.Common.{sym, ap, ◌∙◌, inl, inr}
use Rattle.std.proofs.lemmas.Bool.{and_parts, and_from, and_left, and_right, ne_eqb}
use Rattle.sd_plan.specs.declared.Duty.{Duty}
use Rattle.sd_plan.specs.declared.Edge.{Edge}
use Rattle.sd_plan.specs.declared.Role.TheVariants.{Ordinary}
use Rattle.sd_device.specs.declared.msg.Message.{Message}
use Rattle.sd_device.specs.msg.Stamps.{is_newer}
use Rattle.sd_device.specs.Calls.{Started, Call, Tick, Receive, CallDone, Past, Transition, Nothing, Moved}
use Rattle.sd_device.specs.Words.{starts_as_root, accepted_over, is_move, is_takeover, duty_given, is_acting, may_move, is_sealed, has_moved, duty_now, parent_edge, wait_to_move, emits_at, takes_over_at, moves_at, transition_of, after, accepted_by, entered_by, over_link, epoch_now, stamp_now}
use Rattle.sd_beside.proofs.needed.Pasts.{is_plain, Plain, since_is, duty_is, given_none}
use Rattle.sd_beside.proofs.needed.Still.{Still, still_plain, is_nothing, nothing_is, did_nothing, on_primary, not_acting, just_moved}
use Rattle.sd_beside.proofs.needed.Turns.{plain_on, acting_after}

-- the call accepted nothing
abbrev pub heard_nothing : CallDone → Bool
heard_nothing x = not (is_some (accepted_over x.transition))

-- the device follows this edge and has heard nothing; it has moved, or has no wait to move
pub record Settled (duty : Duty) (edge : Option Edge) (past : Past) : Type 0 where
  pub plain : Plain duty past
  pub idle : is_acting past ≡ false
  pub parent : parent_edge past ≡ edge
  pub settled : (has_moved past ≡ true) ⊎ (wait_to_move duty ≡ None)
  pub heard : list_all heard_nothing past.did ≡ true

module _ (duty : Duty) (edge : Option Edge) (past : Past) (s : Settled duty edge past) where
  -- it has moved just as before
  pub moved_as_before : (call : Call) → transition_of past call ≡ Nothing → duty_given call ≡ None → has_moved (after past call) ≡ has_moved past
  moved_as_before call stays gives =
      let plain_is : is_plain (record { call = call; transition = transition_of past call }) ≡ true = rw (stays, gives) refl in
      ap (list_any (λ x. is_move x.transition)) (since_is duty (after past call) (plain_on duty past call s.plain plain_is))
      ∙ ap (λ (t : Transition). is_move t || list_any (λ x. is_move x.transition) past.did) stays
      ∙ sym (ap (list_any (λ x. is_move x.transition)) (since_is duty past s.plain))

  -- a call that does nothing leaves it so
  pub settled_on : (call : Call) → transition_of past call ≡ Nothing → duty_given call ≡ None → Settled duty edge (after past call)
  settled_on call stays gives =
      let plain_is : is_plain (record { call = call; transition = transition_of past call }) ≡ true = rw (stays, gives) refl in
      let plain' : Plain duty (after past call) = plain_on duty past call s.plain plain_is in
      let idle' : is_acting (after past call) ≡ false =
      acting_after duty past call s.plain plain_is ∙ ap (λ (t : Transition). is_takeover t || is_acting past) stays ∙ s.idle in
      let moved : has_moved (after past call) ≡ has_moved past = moved_as_before call stays gives in
      let duty' : duty_now (after past call) ≡ Some duty = duty_is duty (after past call) plain' in
      let same : parent_edge (after past call) ≡ parent_edge past = rw (idle', moved, duty', s.idle, duty_is duty past s.plain) refl in
      record {
        plain = plain';
        idle = idle';
        parent = same ∙ s.parent;
        settled = elim s.settled [ inl was ↦ inl (moved ∙ was) | inr none ↦ inr none ];
        heard = and_from (heard_nothing (record { call = call; transition = transition_of past call })) (list_all heard_nothing past.did) (rw stays refl)
            s.heard;
      }

  -- a tick that is no takeover
  pub tick_rests : (counter : ℕ) → takes_over_at past counter ≡ false → transition_of past (Tick counter) ≡ Nothing
  tick_rests counter no_takeover =
      let no_emission : emits_at past counter ≡ false = rw s.idle refl in
      let no_move : moves_at past counter ≡ false = by s.settled in
      rw (no_emission, no_takeover, no_move) refl
    where
      by : (has_moved past ≡ true) ⊎ (wait_to_move duty ≡ None) → moves_at past counter ≡ false
      by (inl moved) =
          and_left (may_move past && not (has_moved past) && is_sealed past) _
          (and_left (may_move past && not (has_moved past)) (is_sealed past) (and_right (may_move past) (not (has_moved past)) (ap not moved)))
      by (inr none) = and_right (may_move past && not (has_moved past) && is_sealed past) _ (rw (duty_is duty past s.plain, none) refl)

  -- an ordinary device takes over never
  pub ordinary_rests : (counter : ℕ) → duty.role ≡ Ordinary → transition_of past (Tick counter) ≡ Nothing
  ordinary_rests counter ordinary = tick_rests counter (rw (duty_is duty past s.plain, ordinary) refl)

  pub receipt_rests : (link : ℕ) (message : Message) (counter : ℕ) → ((e : Edge) → edge ≡ Some e → e.link ≢ link)
      → transition_of past (Receive link message counter) ≡ Nothing
  receipt_rests link message counter other =
      let no_entering : entered_by past link message ≡ None = rw (given_none duty past s.plain) refl in
      let over : option_and_then (over_link link) (parent_edge past) ≡ None = rw s.parent (elsewhere edge refl) in
      let refused : accepted_by past link message ≡ None = rw over
      (either (nat_eq (epoch_now past) message.epoch && is_newer message.stamp (stamp_now past))) in
      rw (no_entering, refused) refl
    where
      elsewhere : (o : Option Edge) → edge ≡ o → option_and_then (over_link link) o ≡ None
      elsewhere None is = refl
      elsewhere (Some e) is = rw (ne_eqb e.link link (other e is)) refl

      either : (b : Bool) → ◌≡◌ {A = Option Transition} (if b then None else None) None
      either true = refl
      either false = refl

all_heard : (did : List CallDone) → list_all did_nothing did ≡ true → list_all heard_nothing did ≡ true
all_heard [] all = refl
all_heard (x ∷ xs) all =
    let (here, rest) = and_parts (did_nothing x) (list_all did_nothing xs) all in
    and_from (heard_nothing x) (list_all heard_nothing xs)
    (ap (λ (t : Transition). not (is_some (accepted_over t)))
    (nothing_is x.transition (and_parts (is_nothing x.transition) (not (is_some (duty_given x.call))) here).0))
    (all_heard xs rest)

-- a still device without a wait is settled on its primary edge
pub still_settled : (duty : Duty) (past : Past) → Still duty past → starts_as_root (Started duty 0 0 0) ≡ false → wait_to_move duty ≡ None
    → Settled duty duty.primary past
still_settled duty past still other none =
    record {
      plain = still_plain duty past still;
      idle = not_acting duty past still other;
      parent = on_primary duty past still other;
      settled = inr none;
      heard = all_heard past.did still.did;
    }

-- one that has just moved is settled on its backup edge
pub moved_settled : (duty : Duty) (past : Past) (counter : ℕ) → Still duty past → starts_as_root (Started duty 0 0 0) ≡ false
    → transition_of past (Tick counter) ≡ Moved → Settled duty duty.backup (after past (Tick counter))
moved_settled duty past counter still other moves =
    let plain_is : is_plain (record { call = Tick counter; transition = transition_of past (Tick counter) }) ≡ true = rw moves refl in
    let here : heard_nothing (record { call = Tick counter; transition = transition_of past (Tick counter) }) ≡ true = rw moves refl in
    record {
      plain = plain_on duty past (Tick counter) (still_plain duty past still) plain_is;
      idle = acting_after duty past (Tick counter) (still_plain duty past still) plain_is
          ∙ ap (λ (t : Transition). is_takeover t || is_acting past) moves ∙ not_acting duty past still other;
      parent = (just_moved duty past counter still other moves).edge;
      settled = inl (rw moves refl);
      heard = and_from (heard_nothing (record { call = Tick counter; transition = transition_of past (Tick counter) })) (list_all heard_nothing past.did) here
          (all_heard past.did still.did);
    }

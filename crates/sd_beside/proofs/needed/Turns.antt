-- What a tick or a receipt makes of a device that takes up no other duty: it sends nothing and keeps its stamp, or it sends a message of its new
-- stamp, which it relays, emits or takes over with.
use Rattle.std.specs.Prelude.{◌≡◌, ℕ, ◌+◌, Bool, true, false, ◌&&◌, ◌||◌, not, nat_eq, Option, Some, None, option_and_then, refl, if◌then◌else◌}
use Rattle.std.specs.List.{list_any, list_all}
use Rattle.std.proofs.Common.{sym, ap, ◌∙◌}
use Rattle.std.proofs.lemmas.Bool.{and_parts, and_from, not-true}
use Rattle.sd_num.specs.Lists.{map_or}
use Rattle.sd_plan.specs.declared.Duty.{Duty}
use Rattle.sd_plan.specs.declared.Edge.{Edge}
use Rattle.sd_device.specs.declared.msg.Message.{Message}
use Rattle.sd_device.specs.msg.Stamps.{stamp, is_newer}
use Rattle.sd_device.specs.declared.Effect.TheVariants.{Quiet, Send}
use Rattle.sd_device.specs.Calls.{Call, Tick, Receive, Past, Transition, Accepted, Moved, TookOver, Emitted, Nothing}
use Rattle.sd_device.specs.Words.{taken_up, is_takeover, duty_given, starts_as_root, is_acting, backup_now, primary_now, parent_edge, emits_at, takes_over_at, moves_at, is_backup_root_now, has_moved, transition_of, after, effect_of, effect_of_latest, accepted_by, entered_by, over_link, epoch_now, stamp_now, stamp_after}
use Rattle.sd_beside.proofs.needed.Pasts.{is_plain, Plain, no_entry, since_is, given_none}

-- how a device came to send
pub data Sends (past : Past) (call : Call) : Type 0 where
  relays : (link : ℕ) (m : Message) (counter : ℕ) → call ≡ Receive link m counter → is_newer m.stamp (stamp_now past) ≡ true
      → stamp_now (after past call) ≡ m.stamp → is_acting past ≡ false → is_acting (after past call) ≡ false → Sends past call
  emits : (counter : ℕ) → call ≡ Tick counter → is_acting past ≡ true → stamp_now (after past call) ≡ stamp (stamp_now past).term ((stamp_now past).round + 1)
      → is_acting (after past call) ≡ true → Sends past call
  takes_over : (counter : ℕ) → call ≡ Tick counter → is_acting past ≡ false → is_backup_root_now past ≡ true
      → stamp_now (after past call) ≡ stamp ((stamp_now past).term + 1) 1
      → is_acting (after past call) ≡ true → Sends past call

pub data Turned (past : Past) (call : Call) : Type 0 where
  rests : effect_of past call ≡ Quiet → stamp_now (after past call) ≡ stamp_now past → is_acting (after past call) ≡ is_acting past → Turned past call
  sends : (m : Message) → effect_of past call ≡ Send m → m.stamp ≡ stamp_now (after past call) → Sends past call → Turned past call

-- no duty is taken up or given
pub record Goes (past : Past) (call : Call) : Type 0 where
  pub plain : is_plain (record { call = call; transition = transition_of past call }) ≡ true
  pub turned : Turned past call

pub plain_on : (duty : Duty) (past : Past) (call : Call) → Plain duty past → is_plain (record { call = call; transition = transition_of past call }) ≡ true
    → Plain duty (after past call)
plain_on duty past call plain is =
    record {
      made = plain.made;
      did = and_from (is_plain (record { call = call; transition = transition_of past call })) (list_all is_plain past.did) is
          plain.did;
    }

-- who acts
pub acting_words : (duty : Duty) (past : Past) → Plain duty past
    → is_acting past ≡ (starts_as_root past.making || list_any (λ x. is_takeover x.transition) past.did)
acting_words duty past plain = rw (no_entry duty past plain, since_is duty past plain) refl

swap_or : (a b c : Bool) → (a || (b || c)) ≡ (b || (a || c))
swap_or true true c = refl
swap_or true false c = refl
swap_or false b c = refl

pub acting_after : (duty : Duty) (past : Past) (call : Call) → Plain duty past → is_plain (record { call = call; transition = transition_of past call }) ≡ true
    → is_acting (after past call) ≡ (is_takeover (transition_of past call) || is_acting past)
acting_after duty past call plain is =
    acting_words duty (after past call) (plain_on duty past call plain is)
    ∙ swap_or (starts_as_root past.making) (is_takeover (transition_of past call)) (list_any (λ x. is_takeover x.transition) past.did)
    ∙ ap (λ b. is_takeover (transition_of past call) || b) (sym (acting_words duty past plain))

module _ (duty : Duty) (past : Past) (plain : Plain duty past) where
  -- by what the call did
  plain_when : (call : Call) (t : Transition) → transition_of past call ≡ t → taken_up t ≡ None → duty_given call ≡ None
      → is_plain (record { call = call; transition = transition_of past call }) ≡ true
  plain_when call t is takes gives = rw (is, takes, gives) refl

  acting_when : (call : Call) (t : Transition) → transition_of past call ≡ t → taken_up t ≡ None → duty_given call ≡ None
      → is_acting (after past call) ≡ (is_takeover t || is_acting past)
  acting_when call t is takes gives =
      acting_after duty past call plain (plain_when call t is takes gives) ∙ ap (λ (u : Transition). is_takeover u || is_acting past) is

  stamp_when : (call : Call) (t : Transition) → transition_of past call ≡ t
      → stamp_now (after past call) ≡ stamp_after (record { call = call; transition = t }) (stamp_now past)
  stamp_when call t is = ap (λ (u : Transition). stamp_after (record { call = call; transition = u }) (stamp_now past)) is

  effect_when : (call : Call) (t : Transition) → transition_of past call ≡ t
      → effect_of past call ≡ effect_of_latest (after past call) (record { call = call; transition = t })
  effect_when call t is = ap (λ (u : Transition). effect_of_latest (after past call) (record { call = call; transition = u })) is

  nothing_goes : (call : Call) → transition_of past call ≡ Nothing → duty_given call ≡ None → Goes past call
  nothing_goes call is gives =
      record {
        plain = plain_when call Nothing is refl gives;
        turned = rests (effect_when call Nothing is) (stamp_when call Nothing is) (acting_when call Nothing is refl gives);
      }

  moved_goes : (call : Call) → transition_of past call ≡ Moved → duty_given call ≡ None → Goes past call
  moved_goes call is gives =
      record {
        plain = plain_when call Moved is refl gives;
        turned = rests (effect_when call Moved is) (stamp_when call Moved is) (acting_when call Moved is refl gives);
      }

  pub tick_turns : (counter : ℕ) → Goes past (Tick counter)
  tick_turns counter = by (emits_at past counter) (takes_over_at past counter) (moves_at past counter) refl refl refl
    where
      by : (e o m : Bool) → emits_at past counter ≡ e → takes_over_at past counter ≡ o → moves_at past counter ≡ m → Goes past (Tick counter)
      by true o m is_e is_o is_m =
          let t : transition_of past (Tick counter) ≡ Emitted = rw is_e refl in
          record {
            plain = plain_when (Tick counter) Emitted t refl refl;
            turned = sends _ (effect_when (Tick counter) Emitted t) refl
                (emits counter refl (and_parts (is_acting past) _ is_e).0 (stamp_when (Tick counter) Emitted t)
                (acting_when (Tick counter) Emitted t refl refl ∙ (and_parts (is_acting past) _ is_e).0));
          }
      by false true m is_e is_o is_m =
          let t : transition_of past (Tick counter) ≡ TookOver = rw (is_e, is_o) refl in
          let (front, late) = and_parts (is_backup_root_now past && has_moved past && not (is_acting past)) _ is_o in
          let (two, idle) = and_parts (is_backup_root_now past && has_moved past) (not (is_acting past)) front in
          record {
            plain = plain_when (Tick counter) TookOver t refl refl;
            turned = sends _ (effect_when (Tick counter) TookOver t) refl
                (takes_over counter refl (not-true (is_acting past) idle) (and_parts (is_backup_root_now past) (has_moved past) two).0
                (stamp_when (Tick counter) TookOver t) (acting_when (Tick counter) TookOver t refl refl));
          }
      by false false true is_e is_o is_m = moved_goes (Tick counter) (rw (is_e, is_o, is_m) refl) refl
      by false false false is_e is_o is_m = nothing_goes (Tick counter) (rw (is_e, is_o, is_m) refl) refl

  pub receipt_turns : (link : ℕ) (message : Message) (counter : ℕ) → Goes past (Receive link message counter)
  receipt_turns link message counter =
      by (nat_eq (epoch_now past) message.epoch) (is_newer message.stamp (stamp_now past)) (option_and_then (over_link link) (parent_edge past)) refl refl refl
    where
      transition_by : (a : Option Transition) → accepted_by past link message ≡ a
          → transition_of past (Receive link message counter) ≡ map_or a Nothing (λ transition. transition)
      transition_by a is =
          let none : entered_by past link message ≡ None = rw (given_none duty past plain) refl in
          rw (none, is) refl

      -- who acts has no parent
      idle : (edge : Edge) → option_and_then (over_link link) (parent_edge past) ≡ Some edge → is_acting past ≡ false
      idle edge over = go (is_acting past) refl
        where
          go : (b : Bool) → is_acting past ≡ b → is_acting past ≡ false
          go true acts =
              let none : option_and_then (over_link link) (parent_edge past) ≡ None =
              ap (λ (c : Bool). option_and_then (over_link link) (if c then None else if has_moved past then backup_now past else primary_now past)) acts in
              cc
          go false acts = acts

      by : (e n : Bool) (o : Option Edge) → nat_eq (epoch_now past) message.epoch ≡ e → is_newer message.stamp (stamp_now past) ≡ n
          → option_and_then (over_link link) (parent_edge past) ≡ o → Goes past (Receive link message counter)
      by true true (Some edge) is_e is_n is_o =
          let t : transition_of past (Receive link message counter) ≡ Accepted edge = transition_by (Some (Accepted edge)) (rw (is_e, is_n, is_o) refl) in
          record {
            plain = plain_when (Receive link message counter) (Accepted edge) t refl refl;
            turned = sends _ (effect_when (Receive link message counter) (Accepted edge) t) refl
                (relays link message counter refl is_n (stamp_when (Receive link message counter) (Accepted edge) t) (idle edge is_o)
                (acting_when (Receive link message counter) (Accepted edge) t refl refl ∙ idle edge is_o));
          }
      by true true None is_e is_n is_o = nothing_goes (Receive link message counter) (transition_by None (rw (is_e, is_n, is_o) refl)) refl
      by true false o is_e is_n is_o = nothing_goes (Receive link message counter) (transition_by None (rw (is_e, is_n) refl)) refl
      by false n o is_e is_n is_o = nothing_goes (Receive link message counter) (transition_by None (rw is_e refl)) refl

-- What a device sends after a call has its stamp and its epoch, and what it accepts passes on both: an accepted message is sent on as it is.
use Rattle.std.specs.Prelude.{◌≡◌, ℕ, Bool, true, false, ◌&&◌, ◌∷◌, nat_eq, Option, Some, None, option_map, option_and_then, refl, if◌then◌else◌}
use Rattle.std.proofs.Common.{◌∙◌, ap, subst}
use Rattle.std.proofs.lemmas.Bool.{eqb-true, and_parts}
use Rattle.sd_num.specs.Lists.{map_or}
use Rattle.sd_plan.specs.declared.Edge.{Edge}
use Rattle.sd_plan.specs.declared.Duty.{Duty}
use Rattle.sd_device.specs.declared.msg.Stamp.{Stamp}
use Rattle.sd_device.specs.declared.msg.Message.{Message}
use Rattle.sd_device.specs.msg.Stamps.{is_newer}
use Rattle.sd_device.specs.declared.Effect.TheVariants.{Send}
use Rattle.sd_device.specs.Calls.{Call, Tick, Receive, Commit, Transition, Entered, Committed, Recommitted, Accepted, Moved, TookOver, Emitted, Nothing, Past}
use Rattle.sd_device.specs.Words.{transition_of, after, accepted_over, counter_of, given_now, accepted_by, over_link, parent_edge, epoch_now, stamp_now, stamp_after, is_acting, effect_of, effect_of_latest, emitted, emits_at, takes_over_at, moves_at}
use Rattle.sd_safety.specs.messages.Moments.{is_emission, Accepts, entering, following}
use Rattle.sd_history.proofs.Owned.{over_is}
use Rattle.sd_history.proofs.Contained.{send_same}

-- the message has the device's stamp and epoch as they are after the call

record Carries (past : Past) (m : Message) : Type 0 where
  stamp : m.stamp ≡ stamp_now past
  epoch : m.epoch ≡ epoch_now past

emitted_carries : (past : Past) (o : Option ℕ) (m : Message) → emitted past o ≡ Send m → Carries past m
emitted_carries past None m same = cc
emitted_carries past (Some c) m same = subst (Carries past) (send_same same) (record { stamp = refl; epoch = refl })

latest_carries : (past : Past) (call : Call) (transition : Transition) (m : Message)
    → effect_of_latest past (record { call = call; transition = transition }) ≡ Send m → Carries past m
latest_carries past call (Entered duty edge) m same = subst (Carries past) (send_same same) (record { stamp = refl; epoch = refl })
latest_carries past call (Accepted edge) m same = subst (Carries past) (send_same same) (record { stamp = refl; epoch = refl })
latest_carries past call TookOver m same = emitted_carries past (counter_of call) m same
latest_carries past call Emitted m same = emitted_carries past (counter_of call) m same
latest_carries past call _ m same = cc

pub sends_own : (past : Past) (call : Call) (m : Message) → effect_of past call ≡ Send m
    → (m.stamp ≡ stamp_now (after past call)) × (m.epoch ≡ epoch_now (after past call))
sends_own past call m same =
    let carries = latest_carries (after past call) call (transition_of past call) m same in
    (carries.stamp, carries.epoch)

-- What an accepted receipt does

-- the transition accepts over this edge, and why
record Took (past : Past) (m : Message) (link : ℕ) (edge : Edge) (transition : Transition) : Type 0 where
  accepts : Accepts past m edge
  over : edge.link ≡ link
  stamp : (l c : ℕ) (before : Stamp) → stamp_after (record { call = Receive l m c; transition = transition }) before ≡ m.stamp
  epoch : (l c : ℕ) → epoch_now (record { making = past.making; did = record { call = Receive l m c; transition = transition } ∷ past.did }) ≡ m.epoch

over_edge : (link : ℕ) (o : Option Edge) (edge : Edge) → option_and_then (over_link link) o ≡ Some edge → (o ≡ Some edge) × (edge.link ≡ link)
over_edge link None edge same = cc
over_edge link (Some e) edge same =
    let both : (e ≡ edge) × (e.link ≡ link) = over_is link e edge (nat_eq e.link link) refl same in
    (ap Some both.0, subst (λ (x : Edge). x.link ≡ link) both.0 both.1)

accepted_took : (past : Past) (m : Message) (link : ℕ) (edge : Edge) (b : Bool) (o : Option Edge)
    → (nat_eq (epoch_now past) m.epoch && is_newer m.stamp (stamp_now past)) ≡ b → option_and_then (over_link link) (parent_edge past) ≡ o
    → accepted_over (map_or (if b then option_map Accepted o else None) Nothing (λ transition. transition)) ≡ Some edge
    → Took past m link edge (map_or (if b then option_map Accepted o else None) Nothing (λ transition. transition))
accepted_took past m link edge false o holds parent same = cc
accepted_took past m link edge true None holds parent same = cc
accepted_took past m link edge true (Some e) holds parent same =
    let parts : (nat_eq (epoch_now past) m.epoch ≡ true) × (is_newer m.stamp (stamp_now past) ≡ true) =
    and_parts (nat_eq (epoch_now past) m.epoch) (is_newer m.stamp (stamp_now past)) holds in
    let edges : (parent_edge past ≡ Some edge) × (edge.link ≡ link) = over_edge link (parent_edge past) edge (parent ∙ same) in
    record {
      accepts = following (eqb-true (epoch_now past) m.epoch parts.0) edges.0 parts.1;
      over = edges.1;
      stamp = λ l c before. refl;
      epoch = λ l c. eqb-true (epoch_now past) m.epoch parts.0;
    }

entered_took : (past : Past) (m : Message) (link : ℕ) (edge : Edge) (rest : Transition) (g : Option Duty) → given_now past ≡ g
    → (accepted_over rest ≡ Some edge → Took past m link edge rest)
    → accepted_over
    (map_or (option_and_then
    (λ duty. if nat_eq duty.epoch m.epoch then option_map (Entered duty) (option_and_then (over_link link) duty.primary) else None) g) rest
    (λ transition. transition)) ≡ Some edge
    → Took past m link edge
    (map_or (option_and_then
    (λ duty. if nat_eq duty.epoch m.epoch then option_map (Entered duty) (option_and_then (over_link link) duty.primary) else None) g) rest
    (λ transition. transition))
entered_took past m link edge rest None given others same = others same
entered_took past m link edge rest (Some duty) given others same = in_epoch (nat_eq duty.epoch m.epoch) refl same
  where
    by_edge : (o : Option Edge) → nat_eq duty.epoch m.epoch ≡ true → option_and_then (over_link link) duty.primary ≡ o
        → accepted_over (map_or (option_map (Entered duty) o) rest (λ transition. transition)) ≡ Some edge
        → Took past m link edge (map_or (option_map (Entered duty) o) rest (λ transition. transition))
    by_edge None holds primary same' = others same'
    by_edge (Some e) holds primary same' =
        let edges : (duty.primary ≡ Some edge) × (edge.link ≡ link) = over_edge link duty.primary edge (primary ∙ same') in
        record {
          accepts = entering duty given (eqb-true duty.epoch m.epoch holds) edges.0;
          over = edges.1;
          stamp = λ l c before. refl;
          epoch = λ l c. eqb-true duty.epoch m.epoch holds;
        }

    in_epoch : (b : Bool) → nat_eq duty.epoch m.epoch ≡ b
        → accepted_over
        (map_or (if b then option_map (Entered duty) (option_and_then (over_link link) duty.primary) else None) rest (λ transition. transition)) ≡ Some edge
        → Took past m link edge
        (map_or (if b then option_map (Entered duty) (option_and_then (over_link link) duty.primary) else None) rest (λ transition. transition))
    in_epoch true holds same' = by_edge (option_and_then (over_link link) duty.primary) holds refl same'
    in_epoch false holds same' = others same'

receipt_took : (past : Past) (link : ℕ) (m : Message) (c : ℕ) (edge : Edge) → accepted_over (transition_of past (Receive link m c)) ≡ Some edge
    → Took past m link edge (transition_of past (Receive link m c))
receipt_took past link m c edge same =
    entered_took past m link edge (map_or (accepted_by past link m) Nothing (λ transition. transition)) (given_now past) refl
    (λ e. accepted_took past m link edge (nat_eq (epoch_now past) m.epoch && is_newer m.stamp (stamp_now past))
    (option_and_then (over_link link) (parent_edge past)) refl refl e) same

pub accepted_why : (past : Past) (link : ℕ) (m : Message) (c : ℕ) (edge : Edge) → accepted_over (transition_of past (Receive link m c)) ≡ Some edge
    → Accepts past m edge × (edge.link ≡ link)
accepted_why past link m c edge same = let took = receipt_took past link m c edge same in (took.accepts, took.over)

-- after it the device has the message's stamp and is of its epoch
pub passes_on : (past : Past) (link : ℕ) (m : Message) (c : ℕ) (edge : Edge) → accepted_over (transition_of past (Receive link m c)) ≡ Some edge
    → (stamp_now (after past (Receive link m c)) ≡ m.stamp) × (epoch_now (after past (Receive link m c)) ≡ m.epoch)
passes_on past link m c edge same = let took = receipt_took past link m c edge same in (took.stamp link c (stamp_now past), took.epoch link c)

-- What sends is an emission or an accepted receipt.

pub data Sender (past : Past) : Call → Transition → Type 0 where
  root_sends : {call : Call} {transition : Transition} → is_emission transition ≡ true → Sender past call transition
  relay_sends : {transition : Transition} (link : ℕ) (m : Message) (counter : ℕ) (edge : Edge) → accepted_over transition ≡ Some edge
      → Sender past (Receive link m counter) transition

receipt_transition : (past : Past) (link : ℕ) (m : Message) (c : ℕ) (transition : Transition) (over : Option Edge) → accepted_over transition ≡ over
    → (q : Past) (n : Message)
    → effect_of_latest q (record { call = Receive link m c; transition = transition }) ≡ Send n → Sender past (Receive link m c) transition
receipt_transition past link m c transition (Some edge) is q n same = relay_sends link m c edge is
receipt_transition past link m c (Entered duty edge) None is q n same = cc
receipt_transition past link m c (Accepted edge) None is q n same = cc
receipt_transition past link m c TookOver None is q n same = root_sends refl
receipt_transition past link m c Emitted None is q n same = root_sends refl
receipt_transition past link m c (Committed duty) None is q n same = cc
receipt_transition past link m c (Recommitted duty) None is q n same = cc
receipt_transition past link m c Moved None is q n same = cc
receipt_transition past link m c Nothing None is q n same = cc

tick_sender : (past q : Past) (counter : ℕ) (a b c : Bool) (n : Message)
    → effect_of_latest q (record { call = Tick counter; transition = if a then Emitted else if b then TookOver else if c then Moved else Nothing }) ≡ Send n
    → Sender past (Tick counter) (if a then Emitted else if b then TookOver else if c then Moved else Nothing)
tick_sender past q counter true b c n same = root_sends refl
tick_sender past q counter false true c n same = root_sends refl
tick_sender past q counter false false true n same = cc
tick_sender past q counter false false false n same = cc

commit_sender : (past q : Past) (counter : ℕ) (g : Option Duty) (b : Bool) (n : Message)
    → effect_of_latest q (record { call = Commit counter; transition = map_or g Nothing (λ duty. if b then Recommitted duty else Committed duty) }) ≡ Send n
    → Sender past (Commit counter) (map_or g Nothing (λ duty. if b then Recommitted duty else Committed duty))
commit_sender past q counter None b n same = cc
commit_sender past q counter (Some duty) true n same = cc
commit_sender past q counter (Some duty) false n same = cc

pub sender_of : (past : Past) (call : Call) (n : Message) → effect_of past call ≡ Send n → Sender past call (transition_of past call)
sender_of past (Tick counter) n same =
    tick_sender past (after past (Tick counter)) counter (emits_at past counter) (takes_over_at past counter) (moves_at past counter) n same
sender_of past (Receive link m c) n same =
    receipt_transition past link m c (transition_of past (Receive link m c)) (accepted_over (transition_of past (Receive link m c))) refl
    (after past (Receive link m c)) n same
sender_of past (Commit counter) n same = commit_sender past (after past (Commit counter)) counter (given_now past) (is_acting past) n same
sender_of past _ n same = cc

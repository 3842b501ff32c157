-- A device that accepts a message sends it on; when it accepts one; and a device that receives one was made.
use Rattle.std.specs.Prelude.{◌≡◌, ℕ, Bool, true, false, List, [], ◌∷◌, nat_eq, Option, Some, None, is_some, option_map, option_and_then, refl, if◌then◌else◌}
use Rattle.std.proofs.Common.{sym, ◌∙◌, ap, subst}
use Rattle.std.proofs.lemmas.Bool.{eq-eqb, and_from, not-false}
use Rattle.sd_num.specs.Lists.{map_or}
use Rattle.sd_plan.specs.declared.topo.Thing.TheVariants as thing
use Rattle.sd_plan.specs.declared.Edge.{Edge}
use Rattle.sd_plan.specs.declared.Duty.{Duty}
use Rattle.sd_device.specs.declared.msg.Message.{Message}
use Rattle.sd_device.specs.msg.Stamps.{is_newer}
use Rattle.sd_device.specs.declared.Effect.TheVariants.{Send}
use Rattle.sd_device.specs.Calls.{Call, Receive, Transition, Entered, Accepted, Nothing, Past}
use Rattle.sd_device.specs.Words.{transition_of, after, accepted_over, given_now, accepted_by, over_link, parent_edge, epoch_now, stamp_now, effect_of_latest, relayed}
use Rattle.sd_history.specs.World.{Setting, is_up, makes, fails}
use Rattle.sd_history.specs.Steps.{Calls, Step, seen_of}
use Rattle.sd_history.specs.Refusals.{not_started}
use Rattle.sd_history.specs.Chronicle.{past_in, past_after}
use Rattle.sd_history.proofs.Clear.{clear}
use Rattle.sd_history.proofs.Known.{has_some, kept_past, makes_past, up_by}
use Rattle.sd_safety.specs.messages.Moments.{IsChronicle, Moment, upto}
use Rattle.sd_safety.specs.messages.Rounds.{Takes, Hears}
use Rattle.sd_safety.proofs.messages.Sending.{passes_on}
use Rattle.sd_safety.proofs.messages.Receipts.{Taken, taken_flight}

-- What is accepted is sent on.

accepted_sends : (q : Past) (call : Call) (transition : Transition) (edge : Edge) → accepted_over transition ≡ Some edge
    → effect_of_latest q (record { call = call; transition = transition }) ≡ Send (relayed q)
accepted_sends q call (Entered duty e) edge over = refl
accepted_sends q call (Accepted e) edge over = refl
accepted_sends q call _ edge over = cc

pub heard_at : (p : Moment) (d l : ℕ) (m : Message) (c : ℕ) → p.step.act ≡ Calls d (Receive l m c) → Takes p d l m c → Hears m.stamp m.epoch p d l
heard_at p d l m c act takes =
    let on = passes_on takes.past l m c takes.edge takes.over in
    record {
      message = m;
      counter = c;
      carries = refl;
      epoch_is = refl;
      act = act;
      takes = takes;
      sent = relayed (after takes.past (Receive l m c));
      sends =
          record {
            past = takes.past;
            call = Receive l m c;
            there = takes.there;
            act = act;
            effect = accepted_sends (after takes.past (Receive l m c)) (Receive l m c) (transition_of takes.past (Receive l m c)) takes.edge takes.over;
          };
      sent_carries = on.0;
      sent_epoch = on.1;
    }

-- When a message is accepted

pub record IsAccepted (past : Past) (l : ℕ) (m : Message) (c : ℕ) : Type 0 where
  pub edge : Edge
  pub over : accepted_over (transition_of past (Receive l m c)) ≡ Some edge

over_itself : (l : ℕ) (edge : Edge) → edge.link ≡ l → over_link l edge ≡ Some edge
over_itself l edge is = ap (λ b. if b then Some edge else None) (eq-eqb edge.link l is)

accepted_edge : (past : Past) (l : ℕ) (m : Message) (edge : Edge) → epoch_now past ≡ m.epoch → is_newer m.stamp (stamp_now past) ≡ true
    → parent_edge past ≡ Some edge → edge.link ≡ l
    → map_or (accepted_by past l m) Nothing (λ transition. transition) ≡ Accepted edge
accepted_edge past l m edge epoch newer parent link =
    ap (λ b. map_or (if b then option_map Accepted (option_and_then (over_link l) (parent_edge past)) else None) Nothing (λ transition. transition))
    (and_from (nat_eq (epoch_now past) m.epoch) (is_newer m.stamp (stamp_now past)) (eq-eqb (epoch_now past) m.epoch epoch) newer)
    ∙ ap (λ o. map_or (option_map Accepted (option_and_then (over_link l) o)) Nothing (λ transition. transition)) parent
    ∙ ap (λ o. map_or (option_map Accepted o) Nothing (λ transition. transition)) (over_itself l edge link)

entering_or : (g : Option Duty) (l : ℕ) (m : Message) (rest : Transition) (edge : Edge) → accepted_over rest ≡ Some edge
    → (e : Edge)
    × (accepted_over
    (map_or (option_and_then (λ duty. if nat_eq duty.epoch m.epoch then option_map (Entered duty) (option_and_then (over_link l) duty.primary) else None)
    g) rest (λ transition. transition)) ≡ Some e)
entering_or None l m rest edge over = (edge, over)
entering_or (Some duty) l m rest edge over = by_epoch (nat_eq duty.epoch m.epoch)
  where
    by_edge : (o : Option Edge) → (e : Edge) × (accepted_over (map_or (option_map (Entered duty) o) rest (λ transition. transition)) ≡ Some e)
    by_edge None = (edge, over)
    by_edge (Some x) = (x, refl)

    by_epoch : (b : Bool)
        → (e : Edge)
        × (accepted_over (map_or (if b then option_map (Entered duty) (option_and_then (over_link l) duty.primary) else None) rest (λ transition. transition))
        ≡ Some e)
    by_epoch true = by_edge (option_and_then (over_link l) duty.primary)
    by_epoch false = (edge, over)

-- over the link to its parent, of its own epoch, and newer than what it has seen
pub accepted_from_parent : (past : Past) (l : ℕ) (m : Message) (c : ℕ) (edge : Edge) → epoch_now past ≡ m.epoch → is_newer m.stamp (stamp_now past) ≡ true
    → parent_edge past ≡ Some edge → edge.link ≡ l → IsAccepted past l m c
accepted_from_parent past l m c edge epoch newer parent link =
    let any = entering_or (given_now past) l m (map_or (accepted_by past l m) Nothing (λ transition. transition)) edge
    (ap accepted_over (accepted_edge past l m edge epoch newer parent link)) in
    record { edge = any.0; over = any.1 }

-- over the primary link of the duty that was given to it, of the duty's epoch
pub accepted_by_given : (past : Past) (l : ℕ) (m : Message) (c : ℕ) (duty : Duty) (edge : Edge) → given_now past ≡ Some duty → duty.epoch ≡ m.epoch
    → duty.primary ≡ Some edge → edge.link ≡ l → IsAccepted past l m c
accepted_by_given past l m c duty edge given epoch primary link =
    record {
      edge = edge;
      over =
          ap (λ g. accepted_over
          (map_or (option_and_then (λ u. if nat_eq u.epoch m.epoch then option_map (Entered u) (option_and_then (over_link l) u.primary) else None) g) rest
          (λ transition. transition))) given
          ∙ ap (λ b. accepted_over
          (map_or (if b then option_map (Entered duty) (option_and_then (over_link l) duty.primary) else None) rest (λ transition. transition)))
          (eq-eqb duty.epoch m.epoch epoch)
          ∙ ap (λ o. accepted_over (map_or (option_map (Entered duty) (option_and_then (over_link l) o)) rest (λ transition. transition))) primary
          ∙ ap (λ o. accepted_over (map_or (option_map (Entered duty) o) rest (λ transition. transition))) (over_itself l edge link);
    }
  where
    rest : Transition
    rest = map_or (accepted_by past l m) Nothing (λ transition. transition)

-- A device that is up was made, and has a past.

up_is_made : (setting : Setting) (steps : List Step) (d : ℕ) → IsChronicle setting steps → is_up (seen_of steps) d ≡ true → is_some (past_in steps d) ≡ true
up_is_made setting [] d is up = cc
up_is_made setting (s ∷ earlier) d is up =
    up_by (makes d s.seen.event) (fails (thing.Device d) s.seen.event) (is_up (seen_of earlier) d) (is_some (past_in earlier d))
    (is_some (past_after s.act d (past_in earlier d)))
    (λ makes_. subst (λ act. is_some (past_after act d (past_in earlier d)) ≡ true) (sym (ap (λ x. x.act) is.1))
    (makes_past setting earlier s.seen.event d (past_in earlier d) makes_))
    (kept_past s.act d (past_in earlier d)) (up_is_made setting earlier d is.0) up

pub up_has_past : (setting : Setting) (steps : List Step) (d : ℕ) → IsChronicle setting steps → is_up (seen_of steps) d ≡ true
    → (past : Past) × (past_in steps d ≡ Some past)
up_has_past setting steps d is up = has_some (past_in steps d) (up_is_made setting steps d is up)

-- a device that receives is up, and has a past
pub receiver_is_up : (setting : Setting) (p : Moment) (d l : ℕ) (m : Message) (c : ℕ) → IsChronicle setting (upto p) → p.step.act ≡ Calls d (Receive l m c)
    → is_up (seen_of p.earlier) d ≡ true
receiver_is_up setting p d l m c is act =
    let t : Taken p d l m c = taken_flight setting p d l m c is act in
    not-false (is_up (seen_of p.earlier) d)
    (subst (λ e. not_started (seen_of p.earlier) e ≡ false) t.event_is
    (clear setting p.earlier p.step.seen.event is.2).device_up)

pub receiver_past : (setting : Setting) (p : Moment) (d l : ℕ) (m : Message) (c : ℕ) → IsChronicle setting (upto p) → p.step.act ≡ Calls d (Receive l m c)
    → (past : Past) × (past_in p.earlier d ≡ Some past)
receiver_past setting p d l m c is act = up_has_past setting p.earlier d is.0 (receiver_is_up setting p d l m c is act)

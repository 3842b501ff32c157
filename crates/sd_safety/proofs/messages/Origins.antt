-- Where the stamps of a chronicle came from: each that a device has was emitted, and is at most the newest that was emitted in its epoch.
-- And how a past goes on between two places of a chronicle where its device is not made anew.
use Rattle.std.specs.Prelude.{◌≡◌, ℕ, Bool, true, false, ◌&&◌, List, [], ◌∷◌, nat_eq, Option, Some, None, option_map, option_and_then, ◌⊎◌, refl, if◌then◌else◌}
use Rattle.std.proofs.Common.{sym, ◌∙◌, ap, subst, inl, inr}
use Rattle.std.proofs.lemmas.Bool.{eqb-true}
use Rattle.sd_num.specs.Lists.{map_or}
use Rattle.sd_plan.specs.declared.Duty.{Duty}
use Rattle.sd_plan.specs.declared.Edge.{Edge}
use Rattle.sd_device.specs.declared.msg.Message.{Message}
use Rattle.sd_device.specs.msg.Stamps.{is_newer, message_of}
use Rattle.sd_device.specs.declared.Effect.TheVariants.{Send}
use Rattle.sd_device.specs.Calls.{Making, Call, Tick, Receive, Commit, Transition, Entered, Committed, Recommitted, Accepted, Moved, TookOver, Emitted, Nothing, Past}
use Rattle.sd_device.specs.Words.{transition_of, after, given_now, epoch_now, stamp_now, is_acting, effect_of_latest, relayed, report_at, accepted_by, over_link, parent_edge, emits_at, takes_over_at, moves_at}
use Rattle.sd_history.specs.Steps.{Act, Makes, Calls, Asks, Passes, Step}
use Rattle.sd_history.specs.Chronicle.{new_past, past_in, past_after}
use Rattle.sd_history.proofs.Given.{some_is}
use Rattle.sd_device.proofs.Reached.{added}
use Rattle.sd_safety.specs.messages.Moments.{Tail, whole, behind, Moment, IsIn}
use Rattle.sd_safety.specs.messages.Stamping.{remakes, GoesOn, stays, calls, StampFrom, unset, sent, committed}
use Rattle.sd_safety.proofs.messages.Sending.{sends_own}

-- How a past goes on

-- a call of the device after this past is of the kind
abbrev CallsSo : (Past → Call → Type 0) → ℕ → Act → Option Past → Type 0
CallsSo kind d act before = (past : Past) (call : Call) → act ≡ Calls d call → before ≡ Some past → kind past call

-- how it has gone on since
pub record Since (kind : Past → Call → Type 0) (p : Past) (now : Option Past) : Type 0 where
  pub past : Past
  pub is : now ≡ Some past
  pub on : GoesOn kind p past

called_on : (kind : Past → Call → Type 0) (p : Past) (m d : ℕ) (call : Call) (before : Option Past) (b : Bool) → nat_eq m d ≡ b
    → CallsSo kind d (Calls m call) before → Since kind p before
    → Since kind p (if b then option_map (λ q. after q call) before else before)
called_on kind p m d call before true equal so s =
    record {
      past = after s.past call;
      is = ap (option_map (λ q. after q call)) s.is;
      on = calls s.on call (so s.past call (ap (λ x. Calls x call) (eqb-true m d equal)) s.is);
    }
called_on kind p m d call before false equal so s = s

act_on : (kind : Past → Call → Type 0) (p : Past) (act : Act) (d : ℕ) (before : Option Past) → remakes d act ≡ false → CallsSo kind d act before
    → Since kind p before → Since kind p (past_after act d before)
act_on kind p (Makes m making) d before none so s = subst (λ b. Since kind p (if b then Some (new_past making) else before)) (sym none) s
act_on kind p (Calls m call) d before none so s = called_on kind p m d call before (nat_eq m d) refl so s
act_on kind p (Asks m counter) d before none so s = s
act_on kind p Passes d before none so s = s

-- between two places, where the device is not made anew and its calls are of the kind
pub past_goes : (kind : Past → Call → Type 0) (older steps : List Step) (d : ℕ) (p : Past) → Tail older steps → past_in older d ≡ Some p
    → ((q : Moment) → IsIn q steps → Tail older q.earlier → (remakes d q.step.act ≡ false)
    × ((past : Past) (call : Call) → q.step.act ≡ Calls d call → past_in q.earlier d ≡ Some past → kind past call))
    → Since kind p (past_in steps d)
past_goes kind older steps d p whole there each = record { past = p; is = there; on = stays }
past_goes kind older (s ∷ earlier) d p (behind t) there each =
    let here = each (record { step = s; earlier = earlier }) whole t in
    act_on kind p s.act d (past_in earlier d) here.0 here.1 (past_goes kind older earlier d p t there (λ q u v. each q (behind u) v))

-- Where a stamp came from

-- what a call leaves of the stamp, or sets
data Sets (past : Past) (call : Call) (transition : Transition) : Type 0 where
  keeps : stamp_now (added past call transition) ≡ stamp_now past → epoch_now (added past call transition) ≡ epoch_now past
      → is_acting (added past call transition) ≡ is_acting past → Sets past call transition
  recommits : stamp_now (added past call transition) ≡ stamp_now past → is_acting (added past call transition) ≡ true
      → Sets past call transition
  sends_it : (m : Message) → effect_of_latest (added past call transition) (record { call = call; transition = transition }) ≡ Send m
      → Sets past call transition
  commits : (duty : Duty) (counter : ℕ) → transition ≡ Committed duty → call ≡ Commit counter → Sets past call transition

tick_sets : (past : Past) (counter : ℕ) (a b c : Bool) → Sets past (Tick counter) (if a then Emitted else if b then TookOver else if c then Moved else Nothing)
tick_sets past counter true b c =
    sends_it (message_of (epoch_now past) (stamp_now (added past (Tick counter) Emitted))
    (report_at (added past (Tick counter) Emitted) counter)) refl
tick_sets past counter false true c =
    sends_it (message_of (epoch_now past) (stamp_now (added past (Tick counter) TookOver))
    (report_at (added past (Tick counter) TookOver) counter)) refl
tick_sets past counter false false true = keeps refl refl refl
tick_sets past counter false false false = keeps refl refl refl

commit_sets : (past : Past) (counter : ℕ) (g : Option Duty) (b : Bool)
    → Sets past (Commit counter) (map_or g Nothing (λ duty. if b then Recommitted duty else Committed duty))
commit_sets past counter None b = keeps refl refl refl
commit_sets past counter (Some duty) true = recommits refl refl
commit_sets past counter (Some duty) false = commits duty counter refl refl

accepted_sets : (past : Past) (l : ℕ) (m : Message) (c : ℕ) (b : Bool) (o : Option Edge)
    → Sets past (Receive l m c) (map_or (if b then option_map Accepted o else None) Nothing (λ transition. transition))
accepted_sets past l m c false o = keeps refl refl refl
accepted_sets past l m c true None = keeps refl refl refl
accepted_sets past l m c true (Some edge) =
    sends_it (relayed (added past (Receive l m c) (Accepted edge))) refl

receipt_sets : (past : Past) (l : ℕ) (m : Message) (c : ℕ) (g : Option Duty) (rest : Transition) → Sets past (Receive l m c) rest
    → Sets past (Receive l m c)
    (map_or (option_and_then (λ duty. if nat_eq duty.epoch m.epoch then option_map (Entered duty) (option_and_then (over_link l) duty.primary) else None)
    g) rest (λ transition. transition))
receipt_sets past l m c None rest sets = sets
receipt_sets past l m c (Some duty) rest sets = by_epoch (nat_eq duty.epoch m.epoch)
  where
    by_edge : (o : Option Edge) → Sets past (Receive l m c) (map_or (option_map (Entered duty) o) rest (λ transition. transition))
    by_edge None = sets
    by_edge (Some e) = sends_it (relayed (added past (Receive l m c) (Entered duty e))) refl

    by_epoch : (b : Bool)
        → Sets past (Receive l m c)
        (map_or (if b then option_map (Entered duty) (option_and_then (over_link l) duty.primary) else None) rest (λ transition. transition))
    by_epoch true = by_edge (option_and_then (over_link l) duty.primary)
    by_epoch false = sets

call_sets : (past : Past) (call : Call) → Sets past call (transition_of past call)
call_sets past (Tick counter) = tick_sets past counter (emits_at past counter) (takes_over_at past counter) (moves_at past counter)
call_sets past (Receive l m c) =
    receipt_sets past l m c (given_now past) (map_or (accepted_by past l m) Nothing (λ transition. transition))
    (accepted_sets past l m c (nat_eq (epoch_now past) m.epoch && is_newer m.stamp (stamp_now past)) (option_and_then (over_link l) (parent_edge past)))
call_sets past (Commit counter) = commit_sets past counter (given_now past) (is_acting past)
call_sets past _ = keeps refl refl refl

from_before : (steps : List Step) (s : Step) (d : ℕ) (past new : Past) → stamp_now new ≡ stamp_now past
    → (((m : Message) → (m.epoch ≡ epoch_now past) ⊎ (is_acting past ≡ true) → (m.epoch ≡ epoch_now new) ⊎ (is_acting new ≡ true)))
    → StampFrom steps d past → StampFrom (s ∷ steps) d new
from_before steps s d past new same goes (unset is) = unset (same ∙ is)
from_before steps s d past new same goes (sent p here m by carries of) = sent p (behind here) m by (carries ∙ sym same) (goes m of)
from_before steps s d past new same goes (committed p here before counter duty there act transition) =
    committed p (behind here) before counter duty there act transition

goes_same : (past new : Past) → epoch_now new ≡ epoch_now past → is_acting new ≡ is_acting past → (m : Message)
    → (m.epoch ≡ epoch_now past) ⊎ (is_acting past ≡ true) → (m.epoch ≡ epoch_now new) ⊎ (is_acting new ≡ true)
goes_same past new epoch acts m (inl is) = inl (is ∙ sym epoch)
goes_same past new epoch acts m (inr is) = inr (acts ∙ is)

called_from : (earlier : List Step) (s : Step) (d : ℕ) (call : Call) (past : Past) → s.act ≡ Calls d call → past_in earlier d ≡ Some past
    → Sets past call (transition_of past call) → StampFrom earlier d past → StampFrom (s ∷ earlier) d (after past call)
called_from earlier s d call past act there (keeps same epoch acts) from =
    from_before earlier s d past (after past call) same (goes_same past (after past call) epoch acts) from
called_from earlier s d call past act there (recommits same acts) from = from_before earlier s d past (after past call) same (λ m of. inr acts) from
called_from earlier s d call past act there (sends_it m effect) from =
    let own = sends_own past call m effect in
    sent (record { step = s; earlier = earlier }) whole m (record { past = past; call = call; there = there; act = act; effect = effect }) own.0 (inl own.1)
called_from earlier s d call past act there (commits duty counter transition call_is) from =
    committed (record { step = s; earlier = earlier }) whole past counter duty there (act ∙ ap (Calls d) call_is)
    (ap (transition_of past) (sym call_is) ∙ transition)

later_from : (earlier : List Step) (s : Step) (d : ℕ) (past : Past) → StampFrom earlier d past → StampFrom (s ∷ earlier) d past
later_from earlier s d past from = from_before earlier s d past past refl (λ m of. of) from

made_from : (earlier : List Step) (s : Step) (d : ℕ) (making : Making) (old : Option Past) (past : Past) (b : Bool)
    → ((q : Past) → old ≡ Some q → StampFrom earlier d q) → (if b then Some (new_past making) else old) ≡ Some past → StampFrom (s ∷ earlier) d past
made_from earlier s d making old past true before same = unset (sym (ap stamp_now (some_is same)))
made_from earlier s d making old past false before same = later_from earlier s d past (before past same)

calls_from : (earlier : List Step) (s : Step) (m d : ℕ) (call : Call) (old : Option Past) (past : Past) (b : Bool) → nat_eq m d ≡ b → s.act ≡ Calls m call
    → past_in earlier d ≡ old → ((q : Past) → old ≡ Some q → StampFrom earlier d q)
    → (if b then option_map (λ q. after q call) old else old) ≡ Some past → StampFrom (s ∷ earlier) d past
calls_from earlier s m d call None past true equal act there before same = cc
calls_from earlier s m d call (Some q) past true equal act there before same =
    subst (StampFrom (s ∷ earlier) d) (some_is same)
    (called_from earlier s d call q (act ∙ ap (λ x. Calls x call) (eqb-true m d equal)) there (call_sets q call) (before q refl))
calls_from earlier s m d call old past false equal act there before same = later_from earlier s d past (before past same)

act_from : (earlier : List Step) (s : Step) (act : Act) (d : ℕ) (past : Past) → s.act ≡ act → ((q : Past) → past_in earlier d ≡ Some q → StampFrom earlier d q)
    → past_after act d (past_in earlier d) ≡ Some past → StampFrom (s ∷ earlier) d past
act_from earlier s (Makes m making) d past is before same = made_from earlier s d making (past_in earlier d) past (nat_eq m d) before same
act_from earlier s (Calls m call) d past is before same = calls_from earlier s m d call (past_in earlier d) past (nat_eq m d) refl is refl before same
act_from earlier s (Asks m counter) d past is before same = later_from earlier s d past (before past same)
act_from earlier s Passes d past is before same = later_from earlier s d past (before past same)

-- in every list of steps
pub stamp_from : (steps : List Step) (d : ℕ) (past : Past) → past_in steps d ≡ Some past → StampFrom steps d past
stamp_from [] d past there = cc
stamp_from (s ∷ earlier) d past there = act_from earlier s s.act d past refl (λ q same. stamp_from earlier d q same) there

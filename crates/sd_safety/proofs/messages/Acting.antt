-- While a device acts, with no entering receipt in between, it acts on, its term stays, and its rounds count its emissions.
use Rattle.std.specs.Prelude.{◌≡◌, ℕ, ◌+◌, ◌-◌, max, Bool, true, false, ◌&&◌, not, nat_eq, nat_le, Option, Some, None, option_map, option_and_then, refl, if◌then◌else◌}
use Rattle.std.proofs.Common.{arith, sym, ◌∙◌, ap, subst}
use Rattle.sd_num.specs.Lists.{map_or}
use Rattle.sd_plan.specs.declared.Duty.{Duty}
use Rattle.sd_plan.specs.declared.Edge.{Edge}
use Rattle.sd_device.specs.declared.msg.Message.{Message}
use Rattle.sd_device.specs.msg.Stamps.{is_newer}
use Rattle.sd_device.specs.Calls.{Call, Tick, Receive, Commit, Transition, Entered, Committed, Recommitted, Accepted, Moved, TookOver, Emitted, Nothing, Past}
use Rattle.sd_device.specs.Words.{after, given_now, accepted_by, over_link, parent_edge, epoch_now, stamp_now, is_acting, is_backup_root_now, has_moved, backup_now, primary_now, duty_now, emits_at, takes_over_at, moves_at, heard, moved_at}
use Rattle.sd_device.proofs.Reached.{added}
use Rattle.sd_safety.specs.messages.Stamping.{GoesOn, stays, calls, enters, EntersNot, emissions}

-- what a call of an acting device leaves: it acts, in the same term, and its rounds less its emissions are the same
record ActsOn (past new : Past) : Type 0 where
  acts : is_acting new ≡ true
  term : (stamp_now new).term ≡ (stamp_now past).term
  rounds : (stamp_now new).round + emissions past.did ≡ (stamp_now past).round + emissions new.did

tick_acts : (past : Past) (counter : ℕ) (a b c : Bool) → is_acting past ≡ true → b ≡ false
    → ActsOn past (added past (Tick counter) (if a then Emitted else if b then TookOver else if c then Moved else Nothing))
tick_acts past counter true b c acts none = record { acts = acts; term = refl; rounds = omega arith }
tick_acts past counter false true c acts none = cc
tick_acts past counter false false true acts none = record { acts = acts; term = refl; rounds = refl }
tick_acts past counter false false false acts none = record { acts = acts; term = refl; rounds = refl }

-- an acting device does not take over
no_takeover : (a b c d : Bool) → c ≡ true → (a && b && not c && d) ≡ false
no_takeover true true true d is = refl
no_takeover true true false d is = cc
no_takeover true false c d is = refl
no_takeover false b c d is = refl

takes_over_not : (past : Past) (counter : ℕ) → is_acting past ≡ true → takes_over_at past counter ≡ false
takes_over_not past counter acts =
    no_takeover (is_backup_root_now past) (has_moved past) (is_acting past)
    (map_or (duty_now past) false (λ duty. nat_le duty.wait_second (counter - max (heard past) (moved_at past)))) acts

commit_acts : (past : Past) (counter : ℕ) (g : Option Duty) (b : Bool) → b ≡ true → is_acting past ≡ true
    → ActsOn past (added past (Commit counter) (map_or g Nothing (λ duty. if b then Recommitted duty else Committed duty)))
commit_acts past counter None b is acts = record { acts = acts; term = refl; rounds = refl }
commit_acts past counter (Some duty) true is acts = record { acts = refl; term = refl; rounds = refl }
commit_acts past counter (Some duty) false is acts = cc

-- it has no parent, so it accepts nothing over the link to one
accepts_none : (b : Bool) (l : ℕ) (o : Option Edge) → o ≡ None
    → map_or (if b then option_map Accepted (option_and_then (over_link l) o) else None) Nothing (λ transition. transition) ≡ Nothing
accepts_none true l None none = refl
accepts_none true l (Some edge) none = cc
accepts_none false l o none = refl

parentless : (past : Past) → is_acting past ≡ true → parent_edge past ≡ None
parentless past acts = ap (λ a. if a then None else if has_moved past then backup_now past else primary_now past) acts

receipt_acts : (past : Past) (l : ℕ) (m : Message) (c : ℕ) (rest : Transition) (g : Option Duty) → rest ≡ Nothing → is_acting past ≡ true
    → let transition =
    map_or (option_and_then (λ duty. if nat_eq duty.epoch m.epoch then option_map (Entered duty) (option_and_then (over_link l) duty.primary) else None) g)
    rest (λ transition. transition) in
    enters transition ≡ false → ActsOn past (added past (Receive l m c) transition)
receipt_acts past l m c rest g nothing acts not_ = by_given g not_
  where
    quiet : ActsOn past (added past (Receive l m c) rest)
    quiet = subst (λ transition. ActsOn past (added past (Receive l m c) transition)) (sym nothing)
        (record { acts = acts; term = refl; rounds = refl })

    by_edge : (duty : Duty) (o : Option Edge) → let transition = map_or (option_map (Entered duty) o) rest (λ transition. transition) in
        enters transition ≡ false → ActsOn past (added past (Receive l m c) transition)
    by_edge duty None not' = quiet
    by_edge duty (Some e) not' = cc

    by_epoch : (duty : Duty) (b : Bool)
        → let transition =
        map_or (if b then option_map (Entered duty) (option_and_then (over_link l) duty.primary) else None) rest (λ transition. transition) in
        enters transition ≡ false → ActsOn past (added past (Receive l m c) transition)
    by_epoch duty true not' = by_edge duty (option_and_then (over_link l) duty.primary) not'
    by_epoch duty false not' = quiet

    by_given : (h : Option Duty)
        → let transition =
        map_or (option_and_then (λ duty. if nat_eq duty.epoch m.epoch then option_map (Entered duty) (option_and_then (over_link l) duty.primary) else None) h)
        rest (λ transition. transition) in
        enters transition ≡ false → ActsOn past (added past (Receive l m c) transition)
    by_given None not' = quiet
    by_given (Some duty) not' = by_epoch duty (nat_eq duty.epoch m.epoch) not'

call_acts : (past : Past) (call : Call) → is_acting past ≡ true → EntersNot past call → ActsOn past (after past call)
call_acts past (Tick counter) acts not_ =
    tick_acts past counter (emits_at past counter) (takes_over_at past counter) (moves_at past counter) acts (takes_over_not past counter acts)
call_acts past (Receive l m c) acts not_ =
    receipt_acts past l m c (map_or (accepted_by past l m) Nothing (λ transition. transition)) (given_now past)
    (accepts_none (nat_eq (epoch_now past) m.epoch && is_newer m.stamp (stamp_now past)) l (parent_edge past) (parentless past acts)) acts not_
call_acts past (Commit counter) acts not_ = commit_acts past counter (given_now past) (is_acting past) acts acts
call_acts past _ acts not_ = record { acts = acts; term = refl; rounds = refl }

-- Lemma 9, within one acting life
pub record Acting (p q : Past) : Type 0 where
  pub acts : is_acting q ≡ true
  pub term : (stamp_now q).term ≡ (stamp_now p).term
  pub rounds : (stamp_now q).round + emissions p.did ≡ (stamp_now p).round + emissions q.did

pub acts_on : (p q : Past) → is_acting p ≡ true → GoesOn EntersNot p q → Acting p q
acts_on p q acts stays = record { acts = acts; term = refl; rounds = refl }
acts_on p q acts (calls {q = r} on call not_) =
    let before = acts_on p r acts on in
    let step = call_acts r call before.acts not_ in
    let one = before.rounds in
    let two = step.rounds in
    record { acts = step.acts; term = step.term ∙ before.term; rounds = omega (arith, one, two) }

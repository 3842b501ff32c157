-- The emissions of one acting life: an emission leaves its device acting, and the next one is the next round of the term.
use Rattle.std.specs.Prelude.{◌≡◌, ℕ, ◌+◌, ◌-◌, Bool, true, false, ◌&&◌, nat_eq, nat_le, Option, Some, None, option_map, option_and_then, refl, if◌then◌else◌}
use Rattle.std.proofs.Common.{arith, sym, ◌∙◌, ap, subst}
use Rattle.std.proofs.lemmas.Bool.{and_parts, or_right, eq-eqb}
use Rattle.sd_num.specs.Lists.{map_or}
use Rattle.sd_plan.specs.declared.Duty.{Duty}
use Rattle.sd_plan.specs.declared.Edge.{Edge}
use Rattle.sd_device.specs.declared.msg.Message.{Message}
use Rattle.sd_device.specs.msg.Stamps.{is_newer}
use Rattle.sd_device.specs.Calls.{Call, Tick, Receive, Commit, Transition, Entered, Committed, Recommitted, Accepted, Moved, TookOver, Emitted, Nothing, Past}
use Rattle.sd_device.specs.Words.{transition_of, after, stamp_now, epoch_now, duty_now, given_now, accepted_by, parent_edge, over_link, is_acting, later_entry, starts_as_root, is_commit, emits_at, takes_over_at, moves_at, sent_at}
use Rattle.sd_history.specs.Steps.{Calls}
use Rattle.sd_history.specs.Chronicle.{past_in, past_after}
use Rattle.sd_history.proofs.Given.{some_is}
use Rattle.sd_device.proofs.Reached.{added}
use Rattle.sd_safety.specs.messages.Moments.{Moment, upto, IsIn, IsBefore, Emits, is_emission}
use Rattle.sd_safety.specs.messages.Stamping.{IsOlder, GoesOn, stays, calls, EntersNot, emissions, remakes}
use Rattle.sd_safety.proofs.messages.Sending.{sends_own}
use Rattle.sd_safety.proofs.messages.Rising.{emission_enters_not, emission_is_newer}
use Rattle.sd_safety.proofs.messages.Acting.{Acting, acts_on}
use Rattle.sd_safety.proofs.messages.Origins.{Since, past_goes}

-- After an emission a device acts.

tick_acts : (past : Past) (counter : ℕ) (a b c : Bool) → (a ≡ true → is_acting past ≡ true)
    → let transition = if a then Emitted else if b then TookOver else if c then Moved else Nothing in
    is_emission transition ≡ true → is_acting (added past (Tick counter) transition) ≡ true
tick_acts past counter true b c acts is = acts refl
tick_acts past counter false true c acts is = or_right (map_or (later_entry past) (starts_as_root past.making) (λ entry. is_commit entry.transition)) true refl
tick_acts past counter false false true acts is = cc
tick_acts past counter false false false acts is = cc

receipt_emits_not : (past : Past) (l : ℕ) (m : Message) (g : Option Duty) (rest : Transition) → is_emission rest ≡ false
    → is_emission
    (map_or (option_and_then (λ duty. if nat_eq duty.epoch m.epoch then option_map (Entered duty) (option_and_then (over_link l) duty.primary) else None)
    g) rest (λ transition. transition)) ≡ false
receipt_emits_not past l m None rest none = none
receipt_emits_not past l m (Some duty) rest none = by_epoch (nat_eq duty.epoch m.epoch)
  where
    by_edge : (o : Option Edge) → is_emission (map_or (option_map (Entered duty) o) rest (λ transition. transition)) ≡ false
    by_edge None = none
    by_edge (Some e) = refl

    by_epoch : (b : Bool)
        → is_emission (map_or (if b then option_map (Entered duty) (option_and_then (over_link l) duty.primary) else None) rest (λ transition. transition))
        ≡ false
    by_epoch true = by_edge (option_and_then (over_link l) duty.primary)
    by_epoch false = none

accepted_emits_not : (b : Bool) (o : Option Edge) → is_emission (map_or (if b then option_map Accepted o else None) Nothing (λ transition. transition)) ≡ false
accepted_emits_not true None = refl
accepted_emits_not true (Some edge) = refl
accepted_emits_not false o = refl

commit_emits_not : (g : Option Duty) (b : Bool) → is_emission (map_or g Nothing (λ duty. if b then Recommitted duty else Committed duty)) ≡ false
commit_emits_not None b = refl
commit_emits_not (Some duty) true = refl
commit_emits_not (Some duty) false = refl

pub emission_acts : (past : Past) (call : Call) → is_emission (transition_of past call) ≡ true → is_acting (after past call) ≡ true
emission_acts past (Tick counter) is =
    tick_acts past counter (emits_at past counter) (takes_over_at past counter) (moves_at past counter)
    (λ holds. (and_parts (is_acting past) (map_or (duty_now past) false (λ duty. nat_le duty.period (counter - sent_at past))) holds).0) is
emission_acts past (Receive l m c) is =
    let none : is_emission (transition_of past (Receive l m c)) ≡ false =
    receipt_emits_not past l m (given_now past) (map_or (accepted_by past l m) Nothing (λ transition. transition))
    (accepted_emits_not (nat_eq (epoch_now past) m.epoch && is_newer m.stamp (stamp_now past)) (option_and_then (over_link l) (parent_edge past))) in
    let clash : true ≡ false = sym is ∙ none in
    cc
emission_acts past (Commit counter) is =
    let none : is_emission (transition_of past (Commit counter)) ≡ false = commit_emits_not (given_now past) (is_acting past) in
    let clash : true ≡ false = sym is ∙ none in
    cc
emission_acts past _ is = cc

-- Between two emissions

-- no entering receipt and no emission
abbrev pub IsStill : Past → Call → Type 0
IsStill past call = EntersNot past call × (is_emission (transition_of past call) ≡ false)

still_on : (p q : Past) → GoesOn IsStill p q → GoesOn EntersNot p q × (emissions q.did ≡ emissions p.did)
still_on p q stays = (stays, refl)
still_on p q (calls {q = r} on call still) =
    let before = still_on p r on in
    (calls before.0 call still.0, ap (λ b. if b then emissions r.did + 1 else emissions r.did) still.1 ∙ before.1)

next_stamp : (p q : Past) (call : Call) → is_acting p ≡ true → GoesOn IsStill p q → is_emission (transition_of q call) ≡ true
    → ((stamp_now (after q call)).term ≡ (stamp_now p).term) × ((stamp_now (after q call)).round ≡ (stamp_now p).round + 1)
next_stamp p q call acts on is =
    let still = still_on p q on in
    let all : Acting p (after q call) = acts_on p (after q call) acts (calls still.0 call (emission_enters_not (transition_of q call) is)) in
    let one : emissions (after q call).did ≡ emissions q.did + 1 = ap (λ b. if b then emissions q.did + 1 else emissions q.did) is in
    let same = still.1 in
    let rounds = all.rounds in
    (all.term, omega (arith, one, same, rounds))

-- the past after a call
pub past_after_call : (p : Moment) (d : ℕ) (call : Call) (past : Past) → p.step.act ≡ Calls d call → past_in p.earlier d ≡ Some past
    → past_in (upto p) d ≡ Some (after past call)
past_after_call p d call past act there =
    ap (λ a. past_after a d (past_in p.earlier d)) act
    ∙ ap (λ b. if b then option_map (λ q. after q call) (past_in p.earlier d) else past_in p.earlier d) (eq-eqb d d refl)
    ∙ ap (option_map (λ q. after q call)) there

-- Lemma 9, over a chronicle: the next emission of an acting life is the next round of its term
pub next_round : (p q : Moment) (d : ℕ) (m n : Message) → Emits p d m → Emits q d n → IsBefore p q
    → ((r : Moment) → IsIn r q.earlier → IsBefore p r → (remakes d r.step.act ≡ false)
    × ((past : Past) (call : Call) → r.step.act ≡ Calls d call → past_in r.earlier d ≡ Some past → IsStill past call))
    → (n.stamp.term ≡ m.stamp.term) × (n.stamp.round ≡ m.stamp.round + 1)
next_round p q d m n first_ second before between =
    let one = first_.sends in
    let two = second.sends in
    let own = sends_own one.past one.call m one.effect in
    let own' = sends_own two.past two.call n two.effect in
    let since : Since IsStill (after one.past one.call) (past_in q.earlier d) =
    past_goes IsStill (upto p) q.earlier d (after one.past one.call) before (past_after_call p d one.call one.past one.act one.there) between in
    let there : since.past ≡ two.past = some_is (sym since.is ∙ two.there) in
    let next = next_stamp (after one.past one.call) two.past two.call (emission_acts one.past one.call first_.emission)
    (subst (GoesOn IsStill (after one.past one.call)) there since.on) second.emission in (
      ap (λ s. s.term) own'.0 ∙ next.0 ∙ ap (λ s. s.term) (sym own.0),
      ap (λ s. s.round) own'.0 ∙ next.1 ∙ ap (λ s. s.round + 1) (sym own.0),
    )

-- and the rounds of two emissions of one acting life lie as far apart as there are emissions from the one to the other
pub rounds_apart : (p q : Moment) (d : ℕ) (m n : Message) (one : Emits p d m) (two : Emits q d n) → IsBefore p q
    → ((r : Moment) → IsIn r q.earlier → IsBefore p r → (remakes d r.step.act ≡ false)
    × ((past : Past) (call : Call) → r.step.act ≡ Calls d call → past_in r.earlier d ≡ Some past → EntersNot past call))
    → (n.stamp.term ≡ m.stamp.term)
    × (n.stamp.round + emissions (after one.sends.past one.sends.call).did ≡ m.stamp.round + emissions (after two.sends.past two.sends.call).did)
rounds_apart p q d m n first_ second before between =
    let one = first_.sends in
    let two = second.sends in
    let own = sends_own one.past one.call m one.effect in
    let own' = sends_own two.past two.call n two.effect in
    let since : Since EntersNot (after one.past one.call) (past_in q.earlier d) =
    past_goes EntersNot (upto p) q.earlier d (after one.past one.call) before (past_after_call p d one.call one.past one.act one.there) between in
    let there : since.past ≡ two.past = some_is (sym since.is ∙ two.there) in
    let all : Acting (after one.past one.call) (after two.past two.call) =
    acts_on (after one.past one.call) (after two.past two.call) (emission_acts one.past one.call first_.emission)
    (calls (subst (GoesOn EntersNot (after one.past one.call)) there since.on) two.call
    (emission_enters_not (transition_of two.past two.call) second.emission)) in
    let rounds = all.rounds in
    let here : n.stamp.round ≡ (stamp_now (after two.past two.call)).round = ap (λ s. s.round) own'.0 in
    let there' : m.stamp.round ≡ (stamp_now (after one.past one.call)).round = ap (λ s. s.round) own.0 in (
      ap (λ s. s.term) own'.0 ∙ all.term ∙ ap (λ s. s.term) (sym own.0),
      omega (arith, rounds, here, there'),
    )

-- of two emissions of one life with no entering receipt in between, whether it acted on or not, the later one is newer
pub later_is_newer : (p q : Moment) (d : ℕ) (m n : Message) → Emits p d m → Emits q d n → IsBefore p q
    → ((r : Moment) → IsIn r q.earlier → IsBefore p r → (remakes d r.step.act ≡ false)
    × ((past : Past) (call : Call) → r.step.act ≡ Calls d call → past_in r.earlier d ≡ Some past → EntersNot past call))
    → IsOlder m.stamp n.stamp
later_is_newer p q d m n first_ second before between =
    let one = first_.sends in
    let two = second.sends in
    let own = sends_own one.past one.call m one.effect in
    let own' = sends_own two.past two.call n two.effect in
    let since : Since EntersNot (after one.past one.call) (past_in q.earlier d) =
    past_goes EntersNot (upto p) q.earlier d (after one.past one.call) before (past_after_call p d one.call one.past one.act one.there) between in
    let there : since.past ≡ two.past = some_is (sym since.is ∙ two.there) in
    let newer : IsOlder (stamp_now (after one.past one.call)) (stamp_now (after two.past two.call)) =
    emission_is_newer (after one.past one.call) two.past two.call (subst (GoesOn EntersNot (after one.past one.call)) there since.on) second.emission
    (emission_enters_not (transition_of two.past two.call) second.emission) in
    subst (λ s. IsOlder m.stamp s) (sym own'.0) (subst (λ s. IsOlder s (stamp_now (after two.past two.call))) (sym own.0) newer)

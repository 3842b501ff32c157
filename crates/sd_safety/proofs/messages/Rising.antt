-- Stamps of one device: they rise with each call that is no entering receipt; while it acts its term stays, and its rounds count its emissions.
use Rattle.std.specs.Prelude.{◌≡◌, ℕ, ◌+◌, Bool, true, false, ◌&&◌, nat_eq, nat_lt, Option, Some, None, option_map, option_and_then, ◌⊎◌, refl, if◌then◌else◌}
use Rattle.std.proofs.Common.{arith, sym, ◌∙◌, ap, inl, inr}
use Rattle.std.proofs.lemmas.Bool.{and_parts, or_cases, eqb-true, ltb-true}
use Rattle.sd_num.specs.Lists.{map_or}
use Rattle.sd_plan.specs.declared.Duty.{Duty}
use Rattle.sd_plan.specs.declared.Edge.{Edge}
use Rattle.sd_device.specs.declared.msg.Stamp.{Stamp}
use Rattle.sd_device.specs.declared.msg.Message.{Message}
use Rattle.sd_device.specs.msg.Stamps.{is_newer}
use Rattle.sd_device.specs.Calls.{Call, Tick, Receive, Commit, Transition, Entered, Committed, Recommitted, Accepted, Moved, TookOver, Emitted, Nothing, Past}
use Rattle.sd_device.specs.Words.{transition_of, after, given_now, accepted_by, over_link, parent_edge, epoch_now, stamp_now, stamp_after, is_acting, emits_at, takes_over_at, moves_at}
use Rattle.sd_safety.specs.messages.Moments.{is_emission}
use Rattle.sd_safety.specs.messages.Stamping.{IsOlder, IsUpTo, GoesOn, stays, calls, enters, EntersNot}

-- The order

pub older_is_up_to : (a b : Stamp) → IsOlder a b → IsUpTo a b
older_is_up_to a b (inl less) = inl less
older_is_up_to a b (inr both) = let less = both.1 in inr (both.0, omega (arith, less))

pub up_to_itself : (a : Stamp) → IsUpTo a a
up_to_itself a = inr (refl, omega arith)

pub up_to_trans : (a b c : Stamp) → IsUpTo a b → IsUpTo b c → IsUpTo a c
up_to_trans a b c (inl x) (inl y) = inl (omega (arith, x, y))
up_to_trans a b c (inl x) (inr y) = let same = y.0 in inl (omega (arith, x, same))
up_to_trans a b c (inr x) (inl y) = let same = x.0 in inl (omega (arith, same, y))
up_to_trans a b c (inr x) (inr y) = let one = x.1 in let two = y.1 in inr (x.0 ∙ y.0, omega (arith, one, two))

pub up_to_older : (a b c : Stamp) → IsUpTo a b → IsOlder b c → IsOlder a c
up_to_older a b c (inl x) (inl y) = inl (omega (arith, x, y))
up_to_older a b c (inl x) (inr y) = let same = y.0 in inl (omega (arith, x, same))
up_to_older a b c (inr x) (inl y) = let same = x.0 in inl (omega (arith, same, y))
up_to_older a b c (inr x) (inr y) = let one = x.1 in let two = y.1 in inr (x.0 ∙ y.0, omega (arith, one, two))

pub older_apart : (a b : Stamp) → IsOlder a b → a ≡ b → ⊥
older_apart a b (inl less) same = let terms : a.term ≡ b.term = ap (λ s. s.term) same in absurd (omega (arith, less, terms))
older_apart a b (inr both) same = let less = both.1 in let rounds : a.round ≡ b.round = ap (λ s. s.round) same in absurd (omega (arith, less, rounds))

pub newer_is : (a b : Stamp) → is_newer a b ≡ true → IsOlder b a
newer_is a b newer = go (or_cases (nat_lt b.term a.term) (nat_eq a.term b.term && nat_lt b.round a.round) newer)
  where
    go : (nat_lt b.term a.term ≡ true) ⊎ ((nat_eq a.term b.term && nat_lt b.round a.round) ≡ true) → IsOlder b a
    go (inl less) = inl (ltb-true b.term a.term less)
    go (inr both) =
        let parts = and_parts (nat_eq a.term b.term) (nat_lt b.round a.round) both in
        inr (sym (eqb-true a.term b.term parts.0), ltb-true b.round a.round parts.1)

-- What each transition does to the stamp

-- a transition that is no entering receipt leaves the stamp or makes it newer, and an emission makes it newer
record Rises (before after_ : Stamp) (transition : Transition) : Type 0 where
  up : IsUpTo before after_
  emission : is_emission transition ≡ true → IsOlder before after_

kept_stamp : (before : Stamp) (transition : Transition) → is_emission transition ≡ false → Rises before before transition
kept_stamp before transition none = record { up = up_to_itself before; emission = λ is. absurd (clash is) }
  where
    clash : is_emission transition ≡ true → ⊥
    clash is = let no : true ≡ false = sym is ∙ none in cc

newer_stamp : (before after_ : Stamp) (transition : Transition) → IsOlder before after_ → Rises before after_ transition
newer_stamp before after_ transition older = record { up = older_is_up_to before after_ older; emission = λ is. older }

tick_rises : (before : Stamp) (counter : ℕ) (a b c : Bool) → let transition = if a then Emitted else if b then TookOver else if c then Moved else Nothing in
    Rises before (stamp_after (record { call = Tick counter; transition = transition }) before) transition
tick_rises before counter true b c = newer_stamp before (record { term = before.term; round = before.round + 1 }) Emitted (inr (refl, omega arith))
tick_rises before counter false true c = newer_stamp before (record { term = before.term + 1; round = 1 }) TookOver (inl (omega arith))
tick_rises before counter false false true = kept_stamp before Moved refl
tick_rises before counter false false false = kept_stamp before Nothing refl

commit_rises : (before : Stamp) (counter : ℕ) (g : Option Duty) (b : Bool)
    → let transition = map_or g Nothing (λ duty. if b then Recommitted duty else Committed duty) in
    Rises before (stamp_after (record { call = Commit counter; transition = transition }) before) transition
commit_rises before counter None b = kept_stamp before Nothing refl
commit_rises before counter (Some duty) true = kept_stamp before (Recommitted duty) refl
commit_rises before counter (Some duty) false = newer_stamp before (record { term = before.term + 1; round = 0 }) (Committed duty) (inl (omega arith))

accepted_rises : (before : Stamp) (l : ℕ) (m : Message) (c : ℕ) (e b : Bool) (o : Option Edge) → is_newer m.stamp before ≡ b
    → let transition = map_or (if e && b then option_map Accepted o else None) Nothing (λ transition. transition) in
    Rises before (stamp_after (record { call = Receive l m c; transition = transition }) before) transition
accepted_rises before l m c false b o newer = kept_stamp before Nothing refl
accepted_rises before l m c true false o newer = kept_stamp before Nothing refl
accepted_rises before l m c true true None newer = kept_stamp before Nothing refl
accepted_rises before l m c true true (Some edge) newer = newer_stamp before m.stamp (Accepted edge) (newer_is m.stamp before newer)

entering_or : (before : Stamp) (l : ℕ) (m : Message) (c : ℕ) (rest : Transition) (g : Option Duty)
    → Rises before (stamp_after (record { call = Receive l m c; transition = rest }) before) rest
    → let transition =
    map_or (option_and_then (λ duty. if nat_eq duty.epoch m.epoch then option_map (Entered duty) (option_and_then (over_link l) duty.primary) else None) g)
    rest (λ transition. transition) in
    enters transition ≡ false → Rises before (stamp_after (record { call = Receive l m c; transition = transition }) before) transition
entering_or before l m c rest None rises not_ = rises
entering_or before l m c rest (Some duty) rises not_ = by_epoch (nat_eq duty.epoch m.epoch) not_
  where
    by_edge : (o : Option Edge) → let transition = map_or (option_map (Entered duty) o) rest (λ transition. transition) in enters transition ≡ false
        → Rises before (stamp_after (record { call = Receive l m c; transition = transition }) before) transition
    by_edge None not' = rises
    by_edge (Some e) not' = cc

    by_epoch : (b : Bool)
        → let transition =
        map_or (if b then option_map (Entered duty) (option_and_then (over_link l) duty.primary) else None) rest (λ transition. transition) in
        enters transition ≡ false → Rises before (stamp_after (record { call = Receive l m c; transition = transition }) before) transition
    by_epoch true not' = by_edge (option_and_then (over_link l) duty.primary) not'
    by_epoch false not' = rises

call_rises : (past : Past) (call : Call) → EntersNot past call → Rises (stamp_now past) (stamp_now (after past call)) (transition_of past call)
call_rises past (Tick counter) not_ = tick_rises (stamp_now past) counter (emits_at past counter) (takes_over_at past counter) (moves_at past counter)
call_rises past (Receive l m c) not_ =
    entering_or (stamp_now past) l m c (map_or (accepted_by past l m) Nothing (λ transition. transition)) (given_now past)
    (accepted_rises (stamp_now past) l m c (nat_eq (epoch_now past) m.epoch) (is_newer m.stamp (stamp_now past))
    (option_and_then (over_link l) (parent_edge past)) refl) not_
call_rises past (Commit counter) not_ = commit_rises (stamp_now past) counter (given_now past) (is_acting past)
call_rises past _ not_ = kept_stamp (stamp_now past) Nothing refl

-- Without an entering receipt in between, stamps never fall, and each emission is newer than all before.

pub stamps_rise : (p q : Past) → GoesOn EntersNot p q → IsUpTo (stamp_now p) (stamp_now q)
stamps_rise p q stays = up_to_itself (stamp_now p)
stamps_rise p q (calls {q = r} on call not_) =
    up_to_trans (stamp_now p) (stamp_now r) (stamp_now (after r call)) (stamps_rise p r on) (call_rises r call not_).up

pub emission_is_newer : (p q : Past) (call : Call) → GoesOn EntersNot p q → is_emission (transition_of q call) ≡ true → EntersNot q call
    → IsOlder (stamp_now p) (stamp_now (after q call))
emission_is_newer p q call on is not_ =
    up_to_older (stamp_now p) (stamp_now q) (stamp_now (after q call)) (stamps_rise p q on) ((call_rises q call not_).emission is)

pub emission_enters_not : (transition : Transition) → is_emission transition ≡ true → enters transition ≡ false
emission_enters_not TookOver is = refl
emission_enters_not Emitted is = refl
emission_enters_not _ is = cc

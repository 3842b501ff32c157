-- Of the receipts of one message over one link at most one counts: stamps only rise while the plan of the device stays, and a plan that was left does not come
-- back.
use Rattle.std.specs.Prelude.{◌≡◌, ℕ, ◌+◌, ◌<◌, ◌≤◌, Bool, true, false, ◌&&◌, ◌||◌, not, List, [], ◌∷◌, Option, Some, None, nat_eq, nat_lt, is_some, option_map, option_and_then, refl, ◌⊎◌, if◌then◌else◌}
use Rattle.std.specs.List.{list_all}
use Rattle.std.proofs.Common.{arith, sym, ◌∙◌, ap, inl, inr}
use Rattle.std.proofs.lemmas.Bool.{and_parts, or_from, not-true}
use Rattle.std.proofs.lemmas.Bool.Decides.{nat_tests}
use Rattle.sd_num.specs.Lists.{map_or}
use Rattle.sd_plan.specs.declared.Duty.{Duty}
use Rattle.sd_plan.specs.declared.Edge.{Edge}
use Rattle.sd_device.specs.declared.msg.Stamp.{Stamp}
use Rattle.sd_device.specs.declared.msg.Message.{Message}
use Rattle.sd_device.specs.msg.Stamps.{stamp, is_newer}
use Rattle.sd_device.specs.declared.registers.Registers.{Registers}
use Rattle.sd_device.specs.declared.registers.Mode.TheVariants.{Acting}
use Rattle.sd_device.specs.declared.turns.Turn.{Turn}
use Rattle.sd_device.specs.declared.turns.Turn.TheVariants.{Emit, TakeOver, Move, Stay}
use Rattle.sd_device.specs.Calls as calls
use Rattle.sd_device.specs.Calls.{Call}
use Rattle.sd_device.specs.Words.{over_link}
use Rattle.sd_device.specs.Rules.{called, turned, turn_of, epoch_in, edge_in, entering, accepting, accepted, entered, committed, with_duty, quietly, is_acting_mode}
use Rattle.sd_beside.specs.deployment.Receipts.{counts, after_calls, is_given, gives, OthersChangeNothing, CountsOnce}

-- What does not count

pub others_change_nothing : OthersChangeNothing
others_change_nothing r link message counter none = by (entering r link message) (accepting r link message) none
  where
    by : (enter : Option (Duty × Edge)) (accept : Option Edge) → (is_some enter || is_some accept) ≡ false
        → map_or enter (map_or accept (quietly r) (λ edge. accepted r edge message counter)) (λ by. accepted (entered r by.0) by.1 message counter) ≡ quietly r
    by None None none' = refl
    by None (Some edge) none' = cc
    by (Some duty) accept none' = cc

-- Stamps

-- what is not newer than a stamp is not newer than a later one
not_newer_later : (a b c : Stamp) → is_newer a b ≡ false → (b.term < c.term) ⊎ ((b.term ≡ c.term) × (b.round ≤ c.round)) → is_newer a c ≡ false
not_newer_later a b c none order = by a.term a.round b.term b.round c.term c.round none order
  where
    by : (t r t1 r1 t2 r2 : ℕ) → (nat_lt t1 t || (nat_eq t t1 && nat_lt r1 r)) ≡ false → (t1 < t2) ⊎ ((t1 ≡ t2) × (r1 ≤ r2))
        → (nat_lt t2 t || (nat_eq t t2 && nat_lt r2 r)) ≡ false
    by t r t1 r1 t2 r2 old (inl less) = grind (arith, nat_tests)
    by t r t1 r1 t2 r2 old (inr later) =
        let same : t1 ≡ t2 = later.0 in
        let more : r1 ≤ r2 = later.1 in
        grind (arith, nat_tests)

-- a newer stamp is later
newer_is_later : (a b : Stamp) → is_newer a b ≡ true → (b.term < a.term) ⊎ ((b.term ≡ a.term) × (b.round ≤ a.round))
newer_is_later a b newer = by a.term a.round b.term b.round newer
  where
    by : (t r t1 r1 : ℕ) → (nat_lt t1 t || (nat_eq t t1 && nat_lt r1 r)) ≡ true → (t1 < t) ⊎ ((t1 ≡ t) × (r1 ≤ r))
    by t r t1 r1 newer' = grind (arith, nat_tests)

-- nor is a stamp newer than itself
not_newer_itself : (a : Stamp) → is_newer a a ≡ false
not_newer_itself a = by a.term a.round
  where
    by : (t r : ℕ) → (nat_lt t t || (nat_eq t t && nat_lt r r)) ≡ false
    by t r = grind (arith, nat_tests)

-- What stays: no duty of the message's plan is given, and the message is of another plan than the device, or not newer than what it has seen.

record Past (message : Message) (r : Registers) : Type 0 where
  given : is_given message.epoch r ≡ false
  old : (nat_eq (epoch_in r) message.epoch && is_newer message.stamp r.stamp) ≡ false

-- a test that fails by its first part, or by its second
either_fails : (a b c : Bool) → (a && b) ≡ false → (b ≡ false → c ≡ false) → (a && c) ≡ false
either_fails true b c none more = more none
either_fails false b c none more = refl

by_first : (a b : Bool) → a ≡ false → (a && b) ≡ false
by_first true b none = cc
by_first false b none = refl

-- the device keeps its plan and its stamp does not fall
later_past : (message : Message) (r new : Registers) → Past message r → new.given ≡ r.given → epoch_in new ≡ epoch_in r
    → (is_newer message.stamp r.stamp ≡ false → is_newer message.stamp new.stamp ≡ false) → Past message new
later_past message r new past same epoch more =
    record {
      given = ap (λ o. map_or o false (λ (duty : Duty). nat_eq duty.epoch message.epoch)) same ∙ past.given;
      old =
          ap (λ n. nat_eq n message.epoch && is_newer message.stamp new.stamp) epoch
          ∙ either_fails (nat_eq (epoch_in r) message.epoch) (is_newer message.stamp r.stamp) (is_newer message.stamp new.stamp) past.old more;
    }

-- it takes up a duty of another plan
other_past : (message : Message) (duty : Duty) (new : Registers) → nat_eq duty.epoch message.epoch ≡ false → new.duty ≡ Some duty → new.given ≡ None
    → Past message new
other_past message duty new other has none =
    record {
      given = ap (λ o. map_or o false (λ (d : Duty). nat_eq d.epoch message.epoch)) none;
      old =
          ap (λ o. nat_eq (map_or o 0 (λ (d : Duty). d.epoch)) message.epoch && is_newer message.stamp new.stamp) has
          ∙ by_first (nat_eq duty.epoch message.epoch) (is_newer message.stamp new.stamp) other;
    }

turn_past : (message : Message) (r : Registers) (counter : ℕ) (turn : Turn) → Past message r → Past message (turned r counter turn).0
turn_past message r counter Emit past =
    later_past message r (turned r counter Emit).0 past refl refl
    (λ none. not_newer_later message.stamp r.stamp (stamp r.stamp.term (r.stamp.round + 1)) none (inr (refl, omega arith)))
turn_past message r counter TakeOver past =
    later_past message r (turned r counter TakeOver).0 past refl refl
    (λ none. not_newer_later message.stamp r.stamp (stamp (r.stamp.term + 1) 1) none (inl (omega arith)))
turn_past message r counter Move past = later_past message r (turned r counter Move).0 past refl refl (λ none. none)
turn_past message r counter Stay past = past

-- the duty that a message makes a device take up was given
entering_given : (r : Registers) (link : ℕ) (message : Message) (by : Duty × Edge) → entering r link message ≡ Some by → r.given ≡ Some by.0
entering_given r link message by is = go r.given is
  where
    go_edge : (duty : Duty) (b : Bool) (o : Option Edge) → (if b then option_map (λ edge. (duty, edge)) o else None) ≡ Some by → Some duty ≡ Some by.0
    go_edge duty true None is' = cc
    go_edge duty true (Some edge) is' = ap (option_map (λ (x : Duty × Edge). x.0)) is'
    go_edge duty false o is' = cc

    go : (o : Option Duty)
        → option_and_then (λ (duty : Duty). if nat_eq duty.epoch message.epoch then option_map (λ edge. (duty, edge)) (option_and_then (over_link link) duty.primary) else None) o
        ≡ Some by
        → o ≡ Some by.0
    go None is' = cc
    go (Some duty) is' = go_edge duty (nat_eq duty.epoch message.epoch) (option_and_then (over_link link) duty.primary) is'

-- an accepted message is newer
accepting_newer : (r : Registers) (link : ℕ) (message : Message) (edge : Edge) → accepting r link message ≡ Some edge → is_newer message.stamp r.stamp ≡ true
accepting_newer r link message edge is = go (nat_eq (epoch_in r) message.epoch) (is_newer message.stamp r.stamp) (option_and_then (over_link link) (edge_in r)) is
  where
    go : (a b : Bool) (o : Option Edge) → (if a && b then o else None) ≡ Some edge → b ≡ true
    go true true o is' = refl
    go true false o is' = cc
    go false b o is' = cc

receipt_past : (message : Message) (r : Registers) (link : ℕ) (other : Message) (counter : ℕ) → Past message r
    → Past message (called r (calls.Receive link other counter)).0
receipt_past message r link other counter past = go (entering r link other) (accepting r link other) refl refl
  where
    go : (enter : Option (Duty × Edge)) (accept : Option Edge) → entering r link other ≡ enter → accepting r link other ≡ accept
        → Past message (map_or enter (map_or accept (quietly r) (λ edge. accepted r edge other counter)) (λ by. accepted (entered r by.0) by.1 other counter)).0
    go (Some by) accept enters accepts =
        other_past message by.0 (accepted (entered r by.0) by.1 other counter).0
        (sym (ap (λ o. map_or o false (λ (d : Duty). nat_eq d.epoch message.epoch)) (entering_given r link other by enters)) ∙ past.given) refl refl
    go None (Some edge) enters accepts =
        later_past message r (accepted r edge other counter).0 past refl refl
        (λ none. not_newer_later message.stamp r.stamp other.stamp none (newer_is_later other.stamp r.stamp (accepting_newer r link other edge accepts)))
    go None None enters accepts = past

commit_past : (message : Message) (r : Registers) (counter : ℕ) (given : Option Duty) → r.given ≡ given → Past message r
    → Past message (map_or given r (committed r counter))
commit_past message r counter None is past = past
commit_past message r counter (Some duty) is past =
    either (is_acting_mode r.mode) (with_duty r duty) turned_root (other_past message duty (with_duty r duty) other refl refl)
    (other_past message duty turned_root other refl refl)
  where
    turned_root : Registers
    turned_root =
        record r {
          duty = Some duty;
          given = None;
          mode = Acting;
          sealed = false;
          stamp = stamp (r.stamp.term + 1) 0;
          sent = counter;
          rates = duty.rates;
        }

    other : nat_eq duty.epoch message.epoch ≡ false
    other = sym (ap (λ o. map_or o false (λ (d : Duty). nat_eq d.epoch message.epoch)) is) ∙ past.given

    either : (b : Bool) (p q : Registers) → Past message p → Past message q → Past message (if b then p else q)
    either true p q one two = one
    either false p q one two = two

call_past : (message : Message) (r : Registers) (call : Call) → gives message.epoch call ≡ false → Past message r → Past message (called r call).0
call_past message r (calls.Tick counter) none past = turn_past message r counter (turn_of r counter) past
call_past message r (calls.Receive link other counter) none past = receipt_past message r link other counter past
call_past message r (calls.Fix counter clock eps) none past = later_past message r (called r (calls.Fix counter clock eps)).0 past refl refl (λ old. old)
call_past message r (calls.Give duty) none past = record { given = none; old = past.old }
call_past message r (calls.Commit counter) none past = commit_past message r counter r.given refl past
call_past message r calls.Seal none past = later_past message r (called r calls.Seal).0 past refl refl (λ old. old)

calls_past : (message : Message) (r : Registers) (between : List Call) → Past message r → list_all (λ call. not (gives message.epoch call)) between ≡ true
    → Past message (after_calls r between)
calls_past message r [] past none = past
calls_past message r (call ∷ earlier) past none =
    let parts = and_parts (not (gives message.epoch call)) (list_all (λ c. not (gives message.epoch c)) earlier) none in
    call_past message (after_calls r earlier) call (not-true (gives message.epoch call) parts.0) (calls_past message r earlier past parts.1)

-- what has passed does not count
past_counts_not : (message : Message) (link : ℕ) (r : Registers) → Past message r → counts r link message ≡ false
past_counts_not message link r past =
    or_from (is_some (entering r link message)) (is_some (accepting r link message)) (enters_not r.given past.given)
    (accepts_not (nat_eq (epoch_in r) message.epoch && is_newer message.stamp r.stamp) past.old)
  where
    enters_not : (o : Option Duty) → map_or o false (λ duty. nat_eq duty.epoch message.epoch) ≡ false
        → is_some {T = Duty × Edge} (option_and_then (λ (duty : Duty). if nat_eq duty.epoch message.epoch then option_map (λ edge. (duty, edge)) (option_and_then (over_link link) duty.primary) else None) o)
        ≡ false
    enters_not None none = refl
    enters_not (Some duty) none =
        ap (λ b. is_some {T = Duty × Edge} (if b then option_map (λ edge. (duty, edge)) (option_and_then (over_link link) duty.primary) else None)) none

    accepts_not : (b : Bool) → b ≡ false → is_some (if b then option_and_then (over_link link) (edge_in r) else None) ≡ false
    accepts_not b none = ap (λ c. is_some (if c then option_and_then (over_link link) (edge_in r) else None)) none

-- a message that counted has passed
counted_past : (r : Registers) (link : ℕ) (message : Message) (counter : ℕ) → counts r link message ≡ true
    → is_given message.epoch (called r (calls.Receive link message counter)).0 ≡ false → Past message (called r (calls.Receive link message counter)).0
counted_past r link message counter counts_ none = go (entering r link message) (accepting r link message) counts_ none
  where
    second : (a b : Bool) → b ≡ false → (a && b) ≡ false
    second true b none' = none'
    second false b none' = refl

    go : (enter : Option (Duty × Edge)) (accept : Option Edge) → (is_some enter || is_some accept) ≡ true
        → (let by = map_or enter (map_or accept (quietly r) (λ edge. accepted r edge message counter)) (λ by. accepted (entered r by.0) by.1 message counter) in
        is_given message.epoch by.0 ≡ false → Past message by.0)
    go (Some by) accept some none' = record { given = none'; old = second _ (is_newer message.stamp message.stamp) (not_newer_itself message.stamp) }
    go None (Some edge) some none' = record { given = none'; old = second _ (is_newer message.stamp message.stamp) (not_newer_itself message.stamp) }
    go None None some none' = cc

pub counts_once : CountsOnce
counts_once r link message counter between counted none given =
    past_counts_not message link (after_calls (called r (calls.Receive link message counter)).0 between)
    (calls_past message (called r (calls.Receive link message counter)).0 between (counted_past r link message counter counted none) given)

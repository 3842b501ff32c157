-- A run of lost rounds in the second of two histories that agree is one in the first.
use Rattle.std.specs.Prelude.{◌≡◌, ℕ, zero, suc, ◌+◌, ◌≤◌, Bool, true, false, ◌&&◌, ◌||◌, not, List, [], ◌∷◌, ◌++◌, map, filter, nat_eq, nat_le, nat_lt, Option, Some, None, option_map, refl, if◌then◌else◌}
use Rattle.std.specs.List.{list_any, list_all}
use Rattle.std.proofs.Common.{arith, sym, ◌∙◌, ap, subst, inl, inr}
use Rattle.std.proofs.lemmas.Bool.{and_parts, and_from, eqb-true, eq-eqb, leb-true, le-leb, le-ltb}
use Rattle.sd_num.specs.Lists.{map_or, below}
use Rattle.sd_plan.specs.declared.topo.Thing.TheVariants as thing
use Rattle.sd_device.specs.declared.msg.Flight.{Flight}
use Rattle.sd_device.specs.declared.msg.Stamp.{Stamp}
use Rattle.sd_sched.specs.Events.{reference_of}
use Rattle.sd_history.specs.World.{Setting, Seen, fails, is_thing, latest_reference}
use Rattle.sd_history.specs.Premises.{reaching_flights, seen_since_sending, was_received, is_overdue, was_interrupted, spoils, spoiled_rounds, is_round, all_from, loss_holds}
use Rattle.sd_history.proofs.Among.{Among, first, later, passes, all_pass, any_passing, mapped_in, on_right, either_side}
use Rattle.sd_history.proofs.Filters.{filter_in}
use Rattle.sd_resume.specs.law.Shifts.{Shift, raised_round, raised_stamp, raised_flight, raised_seen}
use Rattle.sd_resume.specs.law.Losses.{FlightAgrees, ArePast, LossesAgree}
use Rattle.sd_resume.proofs.law.Words.{EventWords, words_of, same_words}
use Rattle.sd_resume.proofs.law.Steps.{any_number_raised, same_numbers}
use Rattle.sd_resume.proofs.law.Judging.{all_on}

-- Lists

among_left : {A : Type 0} (x : A) (xs ys : List A) → Among x xs → Among x (xs ++ ys)
among_left x [] ys among = elim among [ ]
among_left x (y ∷ xs) ys first = first
among_left x (y ∷ xs) ys (later among) = later (among_left x xs ys among)

pub record IsMapped {A B : Type 0} (g : A → B) (p : A → Bool) (y : B) (xs : List A) : Type 0 where
  pub x : A
  pub among : Among x xs
  pub passes : p x ≡ true
  pub is : g x ≡ y

mapped_more : {A B : Type 0} (g : A → B) (p : A → Bool) (y : B) (x : A) (xs : List A) → IsMapped g p y xs → IsMapped g p y (x ∷ xs)
mapped_more g p y x xs m = record { x = m.x; among = later m.among; passes = m.passes; is = m.is }

mapped_by : {A B : Type 0} (g : A → B) (p : A → Bool) (y : B) (x : A) (xs : List A) (b : Bool) → p x ≡ b
    → Among y (map g (if b then x ∷ filter p xs else filter p xs)) → (Among y (map g (filter p xs)) → IsMapped g p y xs) → IsMapped g p y (x ∷ xs)
mapped_by g p y x xs false is among rest = mapped_more g p y x xs (rest among)
mapped_by g p y x xs true is first rest = record { x = x; among = first; passes = is; is = refl }
mapped_by g p y x xs true is (later among) rest = mapped_more g p y x xs (rest among)

mapped : {A B : Type 0} (g : A → B) (p : A → Bool) (y : B) (xs : List A) → Among y (map g (filter p xs)) → IsMapped g p y xs
mapped g p y [] among = elim among [ ]
mapped g p y (x ∷ xs) among = mapped_by g p y x xs (p x) refl among (mapped g p y xs)

pub any_by : {A : Type 0} (p : A → Bool) (xs : List A) → list_any p xs ≡ true → (x : A) × Among x xs × (p x ≡ true)
any_by p [] any = cc
any_by p (x ∷ xs) any = go (p x) refl any (any_by p xs)
  where
    go : (b : Bool) → p x ≡ b → (b || list_any p xs) ≡ true → (list_any p xs ≡ true → (y : _) × Among y xs × (p y ≡ true))
        → (y : _) × Among y (x ∷ xs) × (p y ≡ true)
    go true is some rest = (x, first, is)
    go false is some rest = let r = rest some in (r.0, later r.1, r.2)

-- Rounds

same_run : (shift : Shift) (term round i : ℕ) (o : Stamp) → is_round o term (round + i) ≡ true
    → is_round (raised_stamp shift o) (raised_round shift term round).term ((raised_round shift term round).round + i) ≡ true
same_run shift term round i o is =
    let parts = and_parts (nat_eq o.term term) (nat_eq o.round (round + i)) is in
    go term round o.term o.round (eqb-true o.term term parts.0) (eqb-true o.round (round + i) parts.1)
  where
    later_round : (n round i by : ℕ) → n ≡ round + i → n + by ≡ round + by + i
    later_round n round i by same = omega (arith, same)

    go : (term round t n : ℕ) → t ≡ term → n ≡ round + i
        → is_round (raised_round shift t n) (raised_round shift term round).term ((raised_round shift term round).round + i) ≡ true
    go zero round zero n same same' =
        and_from (nat_eq shift.term shift.term) (nat_eq (n + shift.round) (round + shift.round + i)) (eq-eqb shift.term shift.term refl)
        (eq-eqb (n + shift.round) (round + shift.round + i) (later_round n round i shift.round same'))
    go zero round (suc t) n same same' = absurd (never t same)
      where
        never : (t : ℕ) → suc t ≡ 0 → ⊥
        never t same'' = omega (arith, same'')
    go (suc term) round zero n same same' = absurd (never term same)
      where
        never : (t : ℕ) → 0 ≡ suc t → ⊥
        never t same'' = omega (arith, same'')
    go (suc term) round (suc t) n same same' =
        and_from (nat_eq (suc t + shift.term) (suc term + shift.term)) (nat_eq n (round + i))
        (eq-eqb (suc t + shift.term) (suc term + shift.term) (ap (λ x. x + shift.term) same)) (eq-eqb n (round + i) same')

module _ (shift : Shift) (one other : List Seen) (agree : (f : Flight) → Among f (reaching_flights other) → FlightAgrees shift one other f) where
  rounds_raised : (r : Stamp) → Among r (spoiled_rounds other) → Among (raised_stamp shift r) (spoiled_rounds one)
  rounds_raised r among =
      let m : IsMapped (λ (f : Flight). f.message.stamp) (spoils other) r (reaching_flights other) =
      mapped (λ (f : Flight). f.message.stamp) (spoils other) r (reaching_flights other) among in
      let f : FlightAgrees shift one other m.x = agree m.x m.among in
      subst (λ x. Among (raised_stamp shift x) (spoiled_rounds one)) m.is
      (mapped_in (λ (f : Flight). f.message.stamp) (raised_flight shift m.x) (filter (spoils one) (reaching_flights one))
      (filter_in (spoils one) (raised_flight shift m.x) (reaching_flights one) f.there (f.spoilt ∙ m.passes)))

  runs_raised : (r : Stamp) (k : ℕ) → all_from (spoiled_rounds other) r.term r.round k ≡ true
      → all_from (spoiled_rounds one) (raised_stamp shift r).term (raised_stamp shift r).round k ≡ true
  runs_raised r k all =
      all_on (λ i. list_any (λ o. is_round o r.term (r.round + i)) (spoiled_rounds other))
      (λ i. list_any (λ o. is_round o (raised_stamp shift r).term ((raised_stamp shift r).round + i)) (spoiled_rounds one))
      (λ i some. let o = any_by (λ o. is_round o r.term (r.round + i)) (spoiled_rounds other) some in
      any_passing (λ x. is_round x (raised_stamp shift r).term ((raised_stamp shift r).round + i)) (raised_stamp shift o.0) (spoiled_rounds one) (rounds_raised o.0 o.1)
      (same_run shift r.term r.round i o.0 o.2))
      (below k) all

  -- where losses hold of the first they hold of the second
  pub loss_on : (whole part : Setting) → whole.net ≡ part.net → loss_holds whole one ≡ true → loss_holds part other ≡ true
  loss_on whole part same holds =
      all_pass (λ r. not (all_from (spoiled_rounds other) r.term r.round (part.net.params.loss + 1))) (spoiled_rounds other)
      (λ r among. go (all_from (spoiled_rounds other) r.term r.round (part.net.params.loss + 1))
      (all_from (spoiled_rounds one) (raised_stamp shift r).term (raised_stamp shift r).round (part.net.params.loss + 1))
      (runs_raised r (part.net.params.loss + 1))
      (passes (λ x. not (all_from (spoiled_rounds one) x.term x.round (part.net.params.loss + 1))) (rounds_raised r among)
      (sym (ap (λ net. list_all (λ x. not (all_from (spoiled_rounds one) x.term x.round (net.params.loss + 1))) (spoiled_rounds one)) same) ∙ holds)))
    where
      go : (b a : Bool) → (b ≡ true → a ≡ true) → not a ≡ true → not b ≡ true
      go false a on none = refl
      go true true on none = none
      go true false on none = on refl

-- An event

-- with an event, what lies past is past
pub past_after : (s : Seen) (seen : List Seen) → latest_reference seen ≤ reference_of s.event → ArePast seen → ArePast (s ∷ seen)
past_after s seen goes past =
    and_from _ _ (le-leb (reference_of s.event) (reference_of s.event) (omega arith))
    (all_on (λ x. nat_le (reference_of x.event) (latest_reference seen)) (λ x. nat_le (reference_of x.event) (reference_of s.event))
    (λ x le. later_still (reference_of x.event) (latest_reference seen) (reference_of s.event) goes le) seen past)
  where
    later_still : (a b c : ℕ) → b ≤ c → nat_le a b ≡ true → nat_le a c ≡ true
    later_still a b c le is = let h : a ≤ b = leb-true a b is in le-leb a c (omega (arith, h, le))

not_overdue : (seen : List Seen) (latest due : ℕ) (f : Flight) → f.due ≡ due → latest ≤ due
    → list_all (λ s. nat_le (reference_of s.event) latest) seen ≡ true → is_overdue seen f ≡ false
not_overdue [] latest due f is le past = refl
not_overdue (s ∷ seen) latest due f is le past =
    let parts = and_parts (nat_le (reference_of s.event) latest) (list_all (λ x. nat_le (reference_of x.event) latest) seen) past in
    neither (nat_lt f.due (reference_of s.event)) (is_overdue seen f)
    (by f.due (reference_of s.event) latest due is le parts.0) (not_overdue seen latest due f is le parts.1)
  where
    by : (d r l u : ℕ) → d ≡ u → l ≤ u → nat_le r l ≡ true → nat_lt d r ≡ false
    by d r l u same le' is' = let h : r ≤ l = leb-true r l is' in le-ltb d r (omega (arith, h, le', same))

    neither : (a b : Bool) → a ≡ false → b ≡ false → (a || b) ≡ false
    neither a b x y = rw (x, y) refl

-- the event fails what carries the flight
abbrev interrupts : EventWords → Flight → Bool
interrupts w f =
    is_thing w.failure (thing.Device f.sender) || is_thing w.failure (thing.Device f.receiver) || is_thing w.failure (thing.Link f.link)

interrupted_step : (s : Seen) (seen : List Seen) (f : Flight)
    → was_interrupted (s ∷ seen) f
    ≡ (if list_any (λ g. nat_eq g.number f.number) s.sent then false else interrupts (words_of s.event) f || was_interrupted seen f)
interrupted_step s seen f = go (list_any (λ g. nat_eq g.number f.number) s.sent)
  where
    go : (b : Bool)
        → list_any (λ (x : Seen). fails (thing.Device f.sender) x.event || fails (thing.Device f.receiver) x.event || fails (thing.Link f.link) x.event)
        (if not b then s ∷ seen_since_sending seen f.number else [])
        ≡ (if b then false else interrupts (words_of s.event) f || was_interrupted seen f)
    go true = refl
    go false = refl

module _ (shift : Shift) (s : Seen) (one other : List Seen) (agree : LossesAgree shift one other)
    (goes : latest_reference one ≤ reference_of s.event) (goes_other : latest_reference other ≤ reference_of s.event)
    (sent : (f : Flight) → Among f s.sent → (1 ≤ f.number) × (reference_of s.event ≤ f.due)) where
  words : words_of (raised_seen shift s).event ≡ words_of s.event
  words = same_words shift s.event

  received_after : (n : ℕ) → 1 ≤ n → was_received (raised_seen shift s ∷ one) (n + shift.messages) ≡ was_received (s ∷ other) n
  received_after n some =
      ap (λ b. b || was_received one (n + shift.messages)) (go s.taken)
      ∙ ap (λ b. map_or s.taken false (λ f. nat_eq f.number n) || b) (agree.received n some)
    where
      go : (o : Option Flight) → map_or (option_map (raised_flight shift) o) false (λ f. nat_eq f.number (n + shift.messages)) ≡ map_or o false (λ f. nat_eq f.number n)
      go None = refl
      go (Some f) = same_numbers f.number n shift.messages

  overdue_after : (f : Flight) → is_overdue one (raised_flight shift f) ≡ is_overdue other f
      → is_overdue (raised_seen shift s ∷ one) (raised_flight shift f) ≡ is_overdue (s ∷ other) f
  overdue_after f same =
      ap (λ w. nat_lt f.due w.reference || is_overdue one (raised_flight shift f)) words ∙ ap (λ b. nat_lt f.due (reference_of s.event) || b) same

  interrupted_after : (f : Flight) → (list_any (λ g. nat_eq g.number f.number) s.sent ≡ false → was_interrupted one (raised_flight shift f) ≡ was_interrupted other f)
      → was_interrupted (raised_seen shift s ∷ one) (raised_flight shift f) ≡ was_interrupted (s ∷ other) f
  interrupted_after f same =
      interrupted_step (raised_seen shift s) one (raised_flight shift f)
      ∙ ap (λ b. if b then false else interrupts (words_of (raised_seen shift s).event) f || was_interrupted one (raised_flight shift f)) (any_number_raised shift f.number s.sent)
      ∙ ap (λ w. if list_any (λ g. nat_eq g.number f.number) s.sent then false else interrupts w f || was_interrupted one (raised_flight shift f)) words
      ∙ go (list_any (λ g. nat_eq g.number f.number) s.sent) refl
      ∙ sym (interrupted_step s other f)
    where
      go : (b : Bool) → list_any (λ g. nat_eq g.number f.number) s.sent ≡ b
          → (if b then false else interrupts (words_of s.event) f || was_interrupted one (raised_flight shift f))
          ≡ (if b then false else interrupts (words_of s.event) f || was_interrupted other f)
      go true is = refl
      go false is = ap (λ b. interrupts (words_of s.event) f || b) (same is)

  spoilt_after : (f : Flight) → 1 ≤ f.number → is_overdue one (raised_flight shift f) ≡ is_overdue other f
      → (is_overdue other f ≡ true → spoils one (raised_flight shift f) ≡ spoils other f)
      → was_interrupted (raised_seen shift s ∷ one) (raised_flight shift f) ≡ was_interrupted (s ∷ other) f
      → spoils (raised_seen shift s ∷ one) (raised_flight shift f) ≡ spoils (s ∷ other) f
  spoilt_after f some overdue before interrupted =
      ap (λ b. if b then spoils one (raised_flight shift f)
      else nat_lt f.due (reference_of (raised_seen shift s).event) && not (was_received (raised_seen shift s ∷ one) (f.number + shift.messages))
      && not (was_interrupted (raised_seen shift s ∷ one) (raised_flight shift f))) overdue
      ∙ ap (λ w. if is_overdue other f then spoils one (raised_flight shift f)
      else nat_lt f.due w.reference && not (was_received (raised_seen shift s ∷ one) (f.number + shift.messages))
      && not (was_interrupted (raised_seen shift s ∷ one) (raised_flight shift f))) words
      ∙ ap (λ b. if is_overdue other f then spoils one (raised_flight shift f)
      else nat_lt f.due (reference_of s.event) && not b && not (was_interrupted (raised_seen shift s ∷ one) (raised_flight shift f))) (received_after f.number some)
      ∙ ap (λ b. if is_overdue other f then spoils one (raised_flight shift f)
      else nat_lt f.due (reference_of s.event) && not (was_received (s ∷ other) f.number) && not b) interrupted
      ∙ go (is_overdue other f) refl
    where
      go : (b : Bool) → is_overdue other f ≡ b
          → (if b then spoils one (raised_flight shift f) else nat_lt f.due (reference_of s.event) && not (was_received (s ∷ other) f.number) && not (was_interrupted (s ∷ other) f))
          ≡ (if b then spoils other f else nat_lt f.due (reference_of s.event) && not (was_received (s ∷ other) f.number) && not (was_interrupted (s ∷ other) f))
      go true is = before is
      go false is = refl

  old_flight : (f : Flight) → Among f (reaching_flights other) → FlightAgrees shift (raised_seen shift s ∷ one) (s ∷ other) f
  old_flight f among =
      let was : FlightAgrees shift one other f = agree.flights f among in
      let interrupted : was_interrupted (raised_seen shift s ∷ one) (raised_flight shift f) ≡ was_interrupted (s ∷ other) f =
      interrupted_after f (λ apart. was.interrupted) in
      record {
        there = on_right (map (raised_flight shift) s.sent) was.there;
        number = was.number;
        overdue = overdue_after f was.overdue;
        interrupted = interrupted;
        spoilt = spoilt_after f was.number was.overdue (λ over. was.spoilt) interrupted;
      }

  new_flight : (f : Flight) → Among f s.sent → FlightAgrees shift (raised_seen shift s ∷ one) (s ∷ other) f
  new_flight f among =
      let facts : (1 ≤ f.number) × (reference_of s.event ≤ f.due) = sent f among in
      let none_other : is_overdue other f ≡ false = not_overdue other (latest_reference other) f.due f refl (omega (arith, goes_other, facts.1)) agree.past_other in
      let none : is_overdue one (raised_flight shift f) ≡ false =
      not_overdue one (latest_reference one) f.due (raised_flight shift f) refl (omega (arith, goes, facts.1)) agree.past in
      let overdue : is_overdue one (raised_flight shift f) ≡ is_overdue other f = none ∙ sym none_other in
      let here : list_any (λ g. nat_eq g.number f.number) s.sent ≡ true = any_passing (λ g. nat_eq g.number f.number) f s.sent among (eq-eqb f.number f.number refl) in
      let interrupted : was_interrupted (raised_seen shift s ∷ one) (raised_flight shift f) ≡ was_interrupted (s ∷ other) f =
      interrupted_after f (λ apart. cc) in
      record {
        there = among_left (raised_flight shift f) (map (raised_flight shift) s.sent) (reaching_flights one) (mapped_in (raised_flight shift) f s.sent among);
        number = facts.0;
        overdue = overdue_after f overdue;
        interrupted = interrupted;
        spoilt = spoilt_after f facts.0 overdue (λ over. cc) interrupted;
      }

  pub losses_agree_after : LossesAgree shift (raised_seen shift s ∷ one) (s ∷ other)
  losses_agree_after =
      record {
        flights = λ f among. elim (either_side s.sent (reaching_flights other) among) [
          | inl here ↦ new_flight f here
          | inr before ↦ old_flight f before
        ];
        received = received_after;
        past = past_after (raised_seen shift s) one (subst (λ w. latest_reference one ≤ w.reference) (sym words) goes) agree.past;
        past_other = past_after s other goes_other agree.past_other;
      }

-- Where a flight of a chronicle was sent: the moment, the device that sent it and the end it went over, and that nothing since then bears
-- its number. An accepted receipt is of such a flight, which reached and was not cut off.
use Rattle.std.specs.Prelude.{◌≡◌, ℕ, ◌+◌, Bool, true, false, ◌||◌, not, cond, List, [], ◌∷◌, ◌++◌, find, nat_eq, Option, Some, None, refl}
use Rattle.std.specs.List.{list_any}
use Rattle.std.proofs.Common.{arith, sym, ◌∙◌, ap, subst}
use Rattle.std.proofs.lemmas.Bool.{eqb-true}
use Rattle.sd_num.specs.Lists.{map_or}
use Rattle.sd_device.specs.declared.msg.Flight.{Flight}
use Rattle.sd_device.specs.declared.Effect.{Effect}
use Rattle.sd_device.specs.declared.Effect.TheVariants.{Quiet, Send}
use Rattle.sd_device.specs.Calls.{Call, Past}
use Rattle.sd_device.specs.Words.{after, effect_of, epoch_now}
use Rattle.sd_history.specs.World.{Setting}
use Rattle.sd_history.specs.Steps.{Act, Calls, tells_nothing, tells_called, Step, flights, flight_numbered, flight_count, ends_at, flights_by, flights_of, act_by}
use Rattle.sd_history.specs.Refusals.{since_sending}
use Rattle.sd_history.specs.Chronicle.{answers_by, past_in, told_by}
use Rattle.sd_history.proofs.Among.{Among, first, later}
use Rattle.sd_history.proofs.Given.{some_is}
use Rattle.sd_history.proofs.flights.Sending.{IsOver, over_ends}
use Rattle.sd_safety.specs.messages.Moments.{whole, behind, IsChronicle, Moment, upto, when, IsIn, IsBefore}
use Rattle.sd_safety.proofs.messages.Tails.{tail_length}

-- What is sent

-- the flight was sent by a call of this act, over an end that the device has in the plan that it then follows
pub record IsSentBy (setting : Setting) (steps : List Step) (r : ℕ) (act : Act) (f : Flight) : Type 0 where
  pub device : ℕ
  pub past : Past
  pub call : Call
  pub act_is : act ≡ Calls device call
  pub there : past_in steps device ≡ Some past
  pub effect : effect_of past call ≡ Send f.message
  pub over : IsOver setting steps r device f.message (ends_at setting steps (epoch_now (after past call)) device) f

sent_effect : (setting : Setting) (steps : List Step) (r d : ℕ) (past : Past) (call : Call) (effect : Effect) (f : Flight) → past_in steps d ≡ Some past
    → effect_of past call ≡ effect
    → Among f (flights_by setting steps r d (epoch_now (after past call)) effect) → IsSentBy setting steps r (Calls d call) f
sent_effect setting steps r d past call Quiet f there is a = elim a [ ]
sent_effect setting steps r d past call (Send m) f there is a =
    let over = over_ends setting steps r d m (flight_count steps + 1) (ends_at setting steps (epoch_now (after past call)) d) f a in
    let same : m ≡ f.message = sym (ap (λ g. g.message) over.is) in
    record {
      device = d;
      past = past;
      call = call;
      act_is = refl;
      there = there;
      effect = is ∙ ap Send same;
      over = subst (λ x. IsOver setting steps r d x (ends_at setting steps (epoch_now (after past call)) d) f) same over;
    }

sent_past : (setting : Setting) (steps : List Step) (r d : ℕ) (call : Call) (o : Option Past) (f : Flight) → past_in steps d ≡ o
    → Among f (map_or (map_or o tells_nothing (λ past. tells_called (effect_of past call) (answers_by (after past call)))).answers []
    (λ a. flights_by setting steps r d a.epoch (map_or o tells_nothing (λ past. tells_called (effect_of past call) (answers_by (after past call)))).effect))
    → IsSentBy setting steps r (Calls d call) f
sent_past setting steps r d call None f there a = elim a [ ]
sent_past setting steps r d call (Some past) f there a = sent_effect setting steps r d past call (effect_of past call) f there refl a

pub sent_by : (setting : Setting) (steps : List Step) (r : ℕ) (act : Act) (f : Flight) → Among f (flights_of setting steps r act (told_by steps act))
    → IsSentBy setting steps r act f
sent_by setting steps r (Calls d call) f a = sent_past setting steps r d call (past_in steps d) f refl a
sent_by setting steps r _ f a = elim a [ ]

-- what a moment of a chronicle sends
pub moment_sends : (setting : Setting) (p : Moment) (f : Flight) → IsChronicle setting (upto p) → Among f p.step.sent
    → IsSentBy setting p.earlier (when p) p.step.act f
moment_sends setting p f is a =
    subst (λ act. IsSentBy setting p.earlier (when p) act f) (sym (ap (λ s. s.act) is.1))
    (sent_by setting p.earlier (when p) (act_by setting p.earlier p.step.seen.event) f (subst (λ fs. Among f fs) (ap (λ s. s.sent) is.1) a))

-- When it was sent

pub record SentAt (steps : List Step) (n : ℕ) (f : Flight) : Type 0 where
  pub moment : Moment
  pub is_in : IsIn moment steps
  pub among : Among f moment.step.sent
  pub number : f.number ≡ n
  pub since : (q : Moment) → IsIn q steps → IsBefore moment q → Among q.step (since_sending steps n)

find_in : (xs ys : List Flight) (n : ℕ) (f : Flight) → list_any (λ g. nat_eq g.number n) xs ≡ true → find (λ g. nat_eq g.number n) (xs ++ ys) ≡ Some f
    → Among f xs × (f.number ≡ n)
find_in [] ys n f any found = cc
find_in (x ∷ xs) ys n f any found = go (nat_eq x.number n) refl any found (λ any' found'. find_in xs ys n f any' found')
  where
    go : (b : Bool) → nat_eq x.number n ≡ b → (b || list_any (λ g. nat_eq g.number n) xs) ≡ true
        → cond b (Some x) (find (λ g. nat_eq g.number n) (xs ++ ys)) ≡ Some f
        → (list_any (λ g. nat_eq g.number n) xs ≡ true → find (λ g. nat_eq g.number n) (xs ++ ys) ≡ Some f → Among f xs × (f.number ≡ n))
        → Among f (x ∷ xs) × (f.number ≡ n)
    go true equal any' found' rest =
        let same : x ≡ f = some_is found' in
        (subst (λ y. Among y (x ∷ xs)) same first, subst (λ (y : Flight). y.number ≡ n) same (eqb-true x.number n equal))
    go false equal any' found' rest = let both = rest any' found' in (later both.0, both.1)

find_behind : (xs ys : List Flight) (n : ℕ) → list_any (λ g. nat_eq g.number n) xs ≡ false
    → find (λ g. nat_eq g.number n) (xs ++ ys) ≡ find (λ g. nat_eq g.number n) ys
find_behind [] ys n none = refl
find_behind (x ∷ xs) ys n none = go (nat_eq x.number n) none (λ none'. find_behind xs ys n none')
  where
    go : (b : Bool) → (b || list_any (λ g. nat_eq g.number n) xs) ≡ false
        → (list_any (λ g. nat_eq g.number n) xs ≡ false → find (λ g. nat_eq g.number n) (xs ++ ys) ≡ find (λ g. nat_eq g.number n) ys)
        → cond b (Some x) (find (λ g. nat_eq g.number n) (xs ++ ys)) ≡ find (λ g. nat_eq g.number n) ys
    go true none' rest = cc
    go false none' rest = rest none'

not_round : (p q : Moment) → IsIn q (upto p) → IsBefore p q → ⊥
not_round p q t u =
    let one = tail_length t in
    let two = tail_length u in
    absurd (omega (arith, one, two))

pub sent_where : (steps : List Step) (n : ℕ) (f : Flight) → flight_numbered steps n ≡ Some f → SentAt steps n f
sent_where [] n f found = cc
sent_where (s ∷ earlier) n f found = go (list_any (λ g. nat_eq g.number n) s.sent) refl (λ found'. sent_where earlier n f found')
  where
    by_place : (rest : SentAt earlier n f) (q : Moment) → IsIn q (s ∷ earlier) → IsBefore rest.moment q → Among q.step (s ∷ since_sending earlier n)
    by_place rest q whole u = first
    by_place rest q (behind t) u = later (rest.since q t u)

    go : (b : Bool) → list_any (λ g. nat_eq g.number n) s.sent ≡ b → (flight_numbered earlier n ≡ Some f → SentAt earlier n f) → SentAt (s ∷ earlier) n f
    go true any before =
        let at = find_in s.sent (flights earlier) n f any found in
        record {
          moment = record { step = s; earlier = earlier };
          is_in = whole;
          among = at.0;
          number = at.1;
          since = λ q t u. absurd (not_round (record { step = s; earlier = earlier }) q t u);
        }
    go false any before =
        let rest : SentAt earlier n f = before (sym (find_behind s.sent (flights earlier) n any) ∙ found) in
        record {
          moment = rest.moment;
          is_in = behind rest.is_in;
          among = rest.among;
          number = rest.number;
          since = λ q t u. subst (λ b. Among q.step (cond (not b) (s ∷ since_sending earlier n) [])) (sym any) (by_place rest q t u);
        }

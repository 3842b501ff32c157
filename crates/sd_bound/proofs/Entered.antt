-- What an onlooker takes for entered is the device's own plan: in every history that the rules admit, and so in every run of nodes that tell what the words
-- say. No premise is needed. No device has a number above that of the latest plan, or a given duty of an earlier plan than its own. So its number never
-- falls, and is the staged one from the event on with which it enters.
use Rattle.std.specs.Prelude.{◌≡◌, ℕ, ◌+◌, ◌<◌, ◌≤◌, Bool, true, false, ◌&&◌, ◌||◌, not, List, [], ◌∷◌, cond, count_by, nat_eq, Option, Some, None, is_some, option_map, refl, if◌then◌else◌}
use Rattle.std.specs.List.{list_all}
use Rattle.std.proofs.Common.{◌∙◌, sym, ap, subst, arith}
use Rattle.std.proofs.lemmas.Bool.{or_parts, eqb-true, eq-eqb, both_ways}
use Rattle.std.proofs.lemmas.List.Sums.{sum_by-cons}
use Rattle.sd_num.specs.Lists.{map_or, same_number, find_map_or}
use Rattle.sd_plan.specs.topo.Network.{rates_of}
use Rattle.sd_plan.specs.declared.topo.Thing.TheVariants as thing
use Rattle.sd_plan.specs.declared.Duty.{Duty}
use Rattle.sd_plan.specs.Plans.{members}
use Rattle.sd_plan.specs.Duties.{duty_of}
use Rattle.sd_device.specs.declared.msg.Flight.{Flight}
use Rattle.sd_device.specs.Calls as calls
use Rattle.sd_device.specs.Calls.{Making, Call, Past, CallDone}
use Rattle.sd_device.specs.Words.{after, transition_of, taken_up, duty_now, epoch_now, given_now, duty_given, since_entry}
use Rattle.sd_sched.specs.declared.Event.{Event}
use Rattle.sd_sched.specs.declared.Event.TheVariants as event
use Rattle.sd_sched.specs.Events.{device_of, given, joined, is_stage, is_commit, is_seal}
use Rattle.sd_history.specs.Things.{mended}
use Rattle.sd_history.specs.World.{Setting, Seen, makes, fails, is_up, window, window_is_open, has_commit, epoch_in_force, staged_epoch, in_force, staged, plan_numbered, has_entered}
use Rattle.sd_history.specs.Steps.{Act, Makes, Calls, Asks, Passes, Answers, Step, seen_of, changed, epoch_in, flight_numbered, act_by, has_turned, first_step, events_of}
use Rattle.sd_history.specs.Refusals.{window_order, window_order_seen, past_preparing}
use Rattle.sd_history.specs.Chronicle.{answers_by, new_past, past_in, past_after, told_by, next_step, chronicle}
use Rattle.sd_history.specs.Premises.{has_seal}
use Rattle.sd_history.specs.Admitted.{IsAdmitted, IsAdmittedRun}
use Rattle.sd_history.specs.Nodes.{NodeStep, steps_of, TellsByWords}
use Rattle.sd_device.specs.declared.node.Node.{Ghosts}
use Rattle.sd_history.proofs.Clear.{clear}
use Rattle.sd_history.proofs.Given.{some_is, takes_given}
use Rattle.sd_history.proofs.Known.{up_case}
use Rattle.sd_history.proofs.Shared.{epoch_kept}
use Rattle.sd_history.proofs.Tellings.{admitted_run_is_chronicle, admitted_run_is_history}
use Rattle.sd_history.proofs.flights.Places.{changed_named}
use Rattle.sd_safety.proofs.invariant.Parents.{live_is}
use Rattle.sd_bound.specs.Entered.{EnteredIsOwn, SealsAreOfOwn}

-- The number of the latest plan: the one in force, or the staged one

abbrev latest : List Seen → ℕ
latest seen = epoch_in_force seen + cond (window_is_open seen) 1 0

latest_of : (closed stage : Bool) (x : Seen) (w : Option (List Seen)) (era next : ℕ) → (closed ≡ true → era + 1 ≤ next) → (closed ≡ false → next ≡ era)
    → era + cond (is_some w) 1 0 ≤ next + cond (is_some (if closed then None else if stage then Some [] else option_map (λ v. x ∷ v) w)) 1 0
latest_of true stage x None era next up kept = let more : era + 1 ≤ next = up refl in omega arith
latest_of true stage x (Some w) era next up kept = let more : era + 1 ≤ next = up refl in omega arith
latest_of false true x None era next up kept = let same : next ≡ era = kept refl in omega arith
latest_of false true x (Some w) era next up kept = let same : next ≡ era = kept refl in omega arith
latest_of false false x None era next up kept = let same : next ≡ era = kept refl in omega arith
latest_of false false x (Some w) era next up kept = let same : next ≡ era = kept refl in omega arith

counted_once : (s : Seen) (seen : List Seen) → s.closed ≡ true → epoch_in_force seen + 1 ≤ epoch_in_force (s ∷ seen)
counted_once s seen closed =
    let count : count_by (λ (x : Seen). x.closed) (s ∷ seen) ≡ 1 + count_by (λ (x : Seen). x.closed) seen =
    sum_by-cons (λ (x : Seen). cond x.closed 1 0) s seen ∙ ap (λ b. cond b 1 0 + count_by (λ (x : Seen). x.closed) seen) closed in
    omega (arith, count)

latest_rises : (s : Seen) (seen : List Seen) → latest seen ≤ latest (s ∷ seen)
latest_rises s seen =
    latest_of s.closed (is_stage s.event) s (window seen) (epoch_in_force seen) (epoch_in_force (s ∷ seen)) (counted_once s seen) (epoch_kept s seen)

-- Numbers of devices

-- a device's number is at most this, and that of a given duty from the device's number to this
record IsWithin (most number : ℕ) (given : Option Duty) : Type 0 where
  now : number ≤ most
  later_ : (u : Duty) → given ≡ Some u → (number ≤ u.epoch) × (u.epoch ≤ most)

abbrev AreWithin : ℕ → (ℕ → Option Past) → Type 0
AreWithin most pasts = (d : ℕ) (past : Past) → pasts d ≡ Some past → IsWithin most (epoch_now past) (given_now past)

up_to : (a b n : ℕ) → a ≤ b → n ≤ a → n ≤ b
up_to a b n le at = omega arith

within_more : (a b number : ℕ) (given : Option Duty) → a ≤ b → IsWithin a number given → IsWithin b number given
within_more a b number given le within =
    record {
      now = up_to a b number le within.now;
      later_ = λ u is. ((within.later_ u is).0, up_to a b u.epoch le (within.later_ u is).1);
    }

-- a call that gives a duty gives one of this number
abbrev GivesOf : ℕ → Call → Type 0
GivesOf most (calls.Give duty) = duty.epoch ≡ most
GivesOf most _ = Unit {0}

-- a duty that is given is of a number from the device's own on
given_after : (most number : ℕ) (given : Option Duty) (call : Call) (u : Duty) → IsWithin most number given → GivesOf most call
    → map_or (option_map Some (duty_given call)) given (λ told. told) ≡ Some u → (number ≤ u.epoch) × (u.epoch ≤ most)
given_after most number given (calls.Give duty) u within gives is =
    subst (λ (v : Duty). (number ≤ v.epoch) × (v.epoch ≤ most)) (some_is is)
    (subst (λ n. number ≤ n) (sym gives) within.now, subst (λ n. n ≤ most) (sym gives) (omega arith))
given_after most number given _ u within gives is = within.later_ u is

-- a call leaves a device's numbers so, and its own number where it is the greatest
module _ (most : ℕ) (past : Past) (call : Call) (within : IsWithin most (epoch_now past) (given_now past)) where
  called_within : GivesOf most call → IsWithin most (epoch_now (after past call)) (given_now (after past call))
  called_within gives =
      by (record { call = call; transition = transition_of past call }) (taken_up (transition_of past call)) refl gives (takes_given past call)
    where
      by : (x : CallDone) (t : Option Duty) → x.call ≡ call → GivesOf most call → ((v : Duty) → t ≡ Some v → given_now past ≡ Some v)
          → IsWithin most (map_or (map_or (option_map Some t) (duty_now past) (λ told. told)) 0 (λ u. u.epoch))
          (find_map_or (λ y. option_map Some (duty_given y.call)) (if not (is_some t) then x ∷ since_entry past else []) None)
      by x None is gives taken =
          record {
            now = within.now;
            later_ = λ u given. given_after most (epoch_now past) (given_now past) call u within gives
                (ap (λ c. map_or (option_map Some (duty_given c)) (given_now past) (λ told. told)) (sym is) ∙ given);
          }
      by x (Some v) is gives taken = record { now = (within.later_ v (taken v refl)).1; later_ = λ u given. cc }

  called_stays : epoch_now past ≡ most → epoch_now (after past call) ≡ most
  called_stays same = by (taken_up (transition_of past call)) (takes_given past call)
    where
      between : (n v : ℕ) → n ≡ most → n ≤ v → v ≤ most → v ≡ most
      between n v is low high = omega arith

      by : (t : Option Duty) → ((v : Duty) → t ≡ Some v → given_now past ≡ Some v)
          → map_or (map_or (option_map Some t) (duty_now past) (λ told. told)) 0 (λ (u : Duty). u.epoch) ≡ most
      by None taken = same
      by (Some v) taken = let bounds = within.later_ v (taken v refl) in between (epoch_now past) v.epoch same bounds.0 bounds.1

-- What an event brings

data Brings (seen : List Seen) (e : Event) : Act → Type 0 where
  makes_one : {x : ℕ} {making : Making} → makes x e ≡ true → epoch_now (new_past making) ≤ epoch_in_force seen → given_now (new_past making) ≡ None
      → Brings seen e (Makes x making)
  calls_one : {x : ℕ} {call : Call} → GivesOf (latest seen) call → Brings seen e (Calls x call)
  asks_one : {x counter : ℕ} → Brings seen e (Asks x counter)
  passes_all : Brings seen e Passes

module _ (setting : Setting) (steps : List Step) where
  abbrev seen : List Seen
  seen = seen_of steps

  given_brings : (r m : ℕ) (w : Option (List Seen)) → window seen ≡ w
      → Brings seen (event.Give r m) (map_or (option_map (λ v. plan_numbered setting (staged_epoch seen)) w) Passes (λ plan.
      Calls m (calls.Give (duty_of setting.net plan (staged_epoch seen) m))))
  given_brings r m None is = passes_all
  given_brings r m (Some v) is = calls_one (ap (λ o. epoch_in_force seen + cond (is_some o) 1 0) (sym is))

  received_brings : (r m c n : ℕ) (o : Option Flight) → Brings seen (event.Recv r m c n) (map_or o Passes (λ f. Calls m (calls.Receive f.link f.message c)))
  received_brings r m c n None = passes_all
  received_brings r m c n (Some f) = calls_one tt

  brings : (e : Event) → Brings seen e (act_by setting steps e)
  brings (event.Start r m c clock eps) = makes_one (ap (λ b. b || false) (eq-eqb m m refl)) (omega arith) refl
  brings (event.Join r m c clock eps) = makes_one (eq-eqb m m refl) (omega arith) refl
  brings (event.Tick r m c) = calls_one tt
  brings (event.Recv r m c n) = received_brings r m c n (flight_numbered steps n)
  brings (event.Fix r m c clock eps) = calls_one tt
  brings (event.Give r m) = given_brings r m (window seen) refl
  brings (event.Commit r m c) = calls_one tt
  brings (event.Seal r m) = calls_one tt
  brings (event.Ask r m c) = asks_one
  brings _ = passes_all

-- The numbers of all pasts

made_or : (x : ℕ) (making : Making) (d : ℕ) (p : Option Past) (past : Past) (P : Past → Type 0)
    → (nat_eq x d ≡ true → P (new_past making)) → (p ≡ Some past → P past)
    → (if nat_eq x d then Some (new_past making) else p) ≡ Some past → P past
made_or x making d p past P new old = by (nat_eq x d) refl
  where
    by : (b : Bool) → nat_eq x d ≡ b → (if b then Some (new_past making) else p) ≡ Some past → P past
    by true is same = subst P (some_is same) (new is)
    by false is same = old same

called_or : (call : Call) (b : Bool) (p : Option Past) (past : Past) (P : Past → Type 0) → ((q : Past) → p ≡ Some q → P (after q call))
    → (p ≡ Some past → P past) → (if b then option_map (λ q. after q call) p else p) ≡ Some past → P past
called_or call true None past P new old same = cc
called_or call true (Some q) past P new old same = subst P (some_is same) (new q refl)
called_or call false p past P new old same = old same

within_on : (seen : List Seen) (e : Event) (act : Act) (pasts : ℕ → Option Past) → Brings seen e act → AreWithin (latest seen) pasts
    → AreWithin (latest seen) (λ d. past_after act d (pasts d))
within_on seen e (Makes x making) pasts (makes_one made low none) within d past =
    made_or x making d (pasts d) past (λ q. IsWithin (latest seen) (epoch_now q) (given_now q))
    (λ is. record {
      now = up_to (epoch_in_force seen) (latest seen) (epoch_now (new_past making)) (omega arith) low;
      later_ = λ u given. nothing (given_now (new_past making)) u none given;
    }) (within d past)
  where
    nothing : (o : Option Duty) (u : Duty) → o ≡ None → o ≡ Some u → (epoch_now (new_past making) ≤ u.epoch) × (u.epoch ≤ latest seen)
    nothing o u is same = cc
within_on seen e (Calls x call) pasts (calls_one gives) within d past =
    called_or call (nat_eq x d) (pasts d) past (λ q. IsWithin (latest seen) (epoch_now q) (given_now q))
    (λ q is. called_within (latest seen) q call (within d q is) gives) (within d past)
within_on seen e (Asks x counter) pasts asks_one within d past = within d past
within_on seen e Passes pasts passes_all within d past = within d past

all_within : (setting : Setting) (history : List Event) → AreWithin (latest (seen_of (chronicle setting history))) (past_in (chronicle setting history))
all_within setting [] d past is = cc
all_within setting (e ∷ earlier) d past is =
    let steps = chronicle setting earlier in
    within_more (latest (seen_of steps)) (latest (seen_of (chronicle setting (e ∷ earlier)))) (epoch_now past) (given_now past)
    (latest_rises (next_step setting steps e).seen (seen_of steps))
    (within_on (seen_of steps) e (act_by setting steps e) (past_in steps) (brings setting steps e) (all_within setting earlier) d past is)

-- The number that a device that is up tells

abbrev number : Option Past → Option ℕ
number p = option_map (λ a. a.epoch) (option_map answers_by p)

tells_number : (setting : Setting) (history : List Event) (d : ℕ) → is_up (seen_of (chronicle setting history)) d ≡ true
    → epoch_in (chronicle setting history) d ≡ number (past_in (chronicle setting history) d)
tells_number setting history d up =
    ap (λ (o : Option Answers). option_map (λ a. a.epoch) o) (live_is setting history d)
    ∙ ap (λ b. number (if b then past_in (chronicle setting history) d else None)) up

not_yet : (p : Option Past) (n : ℕ) → ((past : Past) → p ≡ Some past → epoch_now past < n) → same_number (number p) n ≡ false
not_yet None n below = refl
not_yet (Some past) n below = by (nat_eq (epoch_now past) n) refl
  where
    by : (b : Bool) → nat_eq (epoch_now past) n ≡ b → b ≡ false
    by true is = let less : epoch_now past < n = below past refl in let same : epoch_now past ≡ n = eqb-true (epoch_now past) n is in absurd (omega arith)
    by false is = refl

-- a step that makes no device d leaves its number, or raises it to the staged one
module _ (seen : List Seen) (e : Event) (d : ℕ) (p : Option Past)
    (within : (past : Past) → p ≡ Some past → IsWithin (latest seen) (epoch_now past) (given_now past))
    (unmade : makes d e ≡ false) where
  elsewhere : (act : Act) → Brings seen e act → same_number (changed act) d ≡ false → number (past_after act d p) ≡ number p
  elsewhere (Makes x making) brings other = ap (λ b. number (if b then Some (new_past making) else p)) other
  elsewhere (Calls x call) brings other = ap (λ b. number (if b then option_map (λ q. after q call) p else p)) other
  elsewhere (Asks x counter) brings other = refl
  elsewhere Passes brings other = refl

  called_keeps : (call : Call) (b : Bool) (o : Option Past) → p ≡ o → same_number (number o) (latest seen) ≡ true
      → same_number (number (if b then option_map (λ q. after q call) o else o)) (latest seen) ≡ true
  called_keeps call true None is same = cc
  called_keeps call true (Some past) is same =
      eq-eqb (epoch_now (after past call)) (latest seen)
      (called_stays (latest seen) past call (within past is) (eqb-true (epoch_now past) (latest seen) same))
  called_keeps call false o is same = same

  keeps : (act : Act) → Brings seen e act → same_number (number p) (latest seen) ≡ true → same_number (number (past_after act d p)) (latest seen) ≡ true
  keeps (Makes x making) (makes_one made low none) same = by (nat_eq x d) refl
    where
      by : (b : Bool) → nat_eq x d ≡ b → same_number (number (if b then Some (new_past making) else p)) (latest seen) ≡ true
      by true is = let made' : makes d e ≡ true = subst (λ y. makes y e ≡ true) (eqb-true x d is) made in absurd (both_ways (makes d e) unmade made')
      by false is = same
  keeps (Calls x call) (calls_one gives) same = called_keeps call (nat_eq x d) p refl same
  keeps (Asks x counter) brings same = same
  keeps Passes brings same = same

-- a device that the event makes has no number above that of the plan in force
made_low : (setting : Setting) (steps : List Step) (e : Event) (d : ℕ) (p : Option Past) (past : Past) → makes d e ≡ true
    → past_after (act_by setting steps e) d p ≡ Some past → epoch_now past ≤ epoch_in_force (seen_of steps)
made_low setting steps (event.Start r m c clock eps) d p past made is =
    by (nat_eq m d) made is
  where
    making : Making
    making = calls.Started (duty_of setting.net (in_force setting (seen_of steps)) (epoch_in_force (seen_of steps)) m) c clock eps

    by : (b : Bool) → (b || false) ≡ true → (if b then Some (new_past making) else p) ≡ Some past → epoch_now past ≤ epoch_in_force (seen_of steps)
    by true made' same = subst (λ (q : Past). epoch_now q ≤ epoch_in_force (seen_of steps)) (some_is same) (omega arith)
    by false made' same = cc
made_low setting steps (event.Join r m c clock eps) d p past made is = by (nat_eq m d) made is
  where
    making : Making
    making = calls.Joined (rates_of setting.net m) c clock eps

    by : (b : Bool) → b ≡ true → (if b then Some (new_past making) else p) ≡ Some past → epoch_now past ≤ epoch_in_force (seen_of steps)
    by true made' same = subst (λ (q : Past). epoch_now q ≤ epoch_in_force (seen_of steps)) (some_is same) (omega arith)
    by false made' same = cc
made_low setting steps _ d p past made is = cc

-- What an onlooker sees

-- no plan is staged while a window is open
stages_shut : (setting : Setting) (e : Event) (history : List Event) → IsAdmitted setting (e ∷ history) → is_stage e ≡ true
    → window_is_open (seen_of (chronicle setting history)) ≡ false
stages_shut setting e history is stages =
    let steps = chronicle setting history in
    let order : window_order setting steps e ≡ false =
    (clear setting steps e is.1).in_window in
    let outside : window_order_seen setting (seen_of steps) e ≡ false = (or_parts (window_order_seen setting (seen_of steps) e) _ order).0 in
    let front = or_parts _ _ (or_parts _ (is_seal e && (not (window_is_open (seen_of steps)) || not (has_commit (seen_of steps)))) outside).0 in
    let second = or_parts (is_stage e && window_is_open (seen_of steps))
    ((is_some (given e) || is_some (joined e) || is_some (mended e) || is_commit e) && past_preparing (seen_of steps)) front.0 in
    sym (ap (λ b. b && window_is_open (seen_of steps)) stages) ∙ second.0

-- what is found first in a window that goes on is told by its latest event, or else as before
shown_in : (shows : Seen → Option Bool) (s : Seen) (w : Option (List Seen)) → is_some w ≡ true
    → map_or (option_map (λ v. s ∷ v) w) false (λ v. find_map_or shows v false)
    ≡ map_or (shows s) (map_or w false (λ v. find_map_or shows v false)) (λ told. told)
shown_in shows s None open_ = cc
shown_in shows s (Some v) open_ = refl

activated_is : (T : ℕ → Bool) (device : Option ℕ) (d : ℕ)
    → same_number (map_or device None (λ x. if T x then Some x else None)) d ≡ (same_number device d && T d)
activated_is T None d = refl
activated_is T (Some x) d = by (nat_eq x d) (T x) refl refl
  where
    by : (b t : Bool) → nat_eq x d ≡ b → T x ≡ t → same_number (if T x then Some x else None) d ≡ (nat_eq x d && T d)
    by true t same is =
        let here : T x ≡ T d = ap T (eqb-true x d same) in
        ap (λ c. same_number (if c then Some x else None) d) is ∙ each t ∙ ap (λ c. c && t) (sym same) ∙ ap (λ c. nat_eq x d && c) (sym is ∙ here)
      where
        each : (t : Bool) → same_number (if t then Some x else None) d ≡ t
        each true = same
        each false = refl
    by false t same is =
        ap (λ c. same_number (if c then Some x else None) d) is ∙ each t ∙ ap (λ c. c && T d) (sym same)
      where
        each : (t : Bool) → same_number (if t then Some x else None) d ≡ false
        each true = same
        each false = refl

-- a device that the event does not make has entered with it, or had before
entered_now : (named now before : Bool) → (before ≡ true → now ≡ true) → (named ≡ false → now ≡ before)
    → map_or (if named && ((true && now) && not before) then Some true else if false then Some false else None) before (λ told. told) ≡ now
entered_now true true true stays same = refl
entered_now true true false stays same = refl
entered_now true false true stays same = sym (stays refl)
entered_now true false false stays same = refl
entered_now false now before stays same = sym (same refl)

-- one that it makes has not
made_now : (named open_ before entered : Bool)
    → map_or (if named && ((open_ && false) && not before) then Some true else if true then Some false else None) entered (λ told. told) ≡ false
made_now true true before entered = refl
made_now true false before entered = refl
made_now false open_ before entered = refl

-- of an event after which a window is open: it closes none, and stages or comes in a window
data ComesOpen (closed stage : Bool) (w : Option (List Seen)) : Type 0 where
  opens : closed ≡ false → stage ≡ true → ComesOpen closed stage w
  goes_on : closed ≡ false → stage ≡ false → is_some w ≡ true → ComesOpen closed stage w

comes_open : (closed stage : Bool) (x : Seen) (w : Option (List Seen))
    → is_some (if closed then None else if stage then Some [] else option_map (λ v. x ∷ v) w) ≡ true → ComesOpen closed stage w
comes_open true stage x w open_ = cc
comes_open false true x w open_ = opens refl refl
comes_open false false x None open_ = cc
comes_open false false x (Some v) open_ = goes_on refl refl refl

pub entered_is_own : (setting : Setting) (history : List Event) → IsAdmitted setting history → EnteredIsOwn (chronicle setting history)
entered_is_own setting [] is open_ d up = cc
entered_is_own setting (e ∷ earlier) is open_ d up =
    by (λ was_open was_up. entered_is_own setting earlier is.0 was_open d was_up) (comes_open s.seen.closed (is_stage e) s.seen (window before) open_)
  where
    steps : List Step
    steps = chronicle setting earlier

    before : List Seen
    before = seen_of (chronicle setting earlier)

    s : Step
    s = next_step setting (chronicle setting earlier) e

    past : Option Past
    past = past_after (act_by setting (chronicle setting earlier) e) d (past_in (chronicle setting earlier) d)

    tells : epoch_in (chronicle setting (e ∷ earlier)) d ≡ number past
    tells = tells_number setting (e ∷ earlier) d up

    pasts : AreWithin (latest before) (λ x. past_after (act_by setting (chronicle setting earlier) e) x (past_in (chronicle setting earlier) x))
    pasts =
        within_on before e (act_by setting (chronicle setting earlier) e) (past_in (chronicle setting earlier)) (brings setting (chronicle setting earlier) e)
        (all_within setting earlier)

    by : (window_is_open before ≡ true → is_up before d ≡ true
        → has_entered before d ≡ same_number (epoch_in (chronicle setting earlier) d) (staged_epoch before))
        → ComesOpen s.seen.closed (is_stage e) (window before)
        → has_entered (seen_of (chronicle setting (e ∷ earlier))) d
        ≡ same_number (epoch_in (chronicle setting (e ∷ earlier)) d) (staged_epoch (seen_of (chronicle setting (e ∷ earlier))))
    by earlier_is (opens shut stages) =
        (λ i. map_or (if shut i then None else if stages i then Some [] else option_map (λ v. s.seen ∷ v) (window before)) false
        (λ v. find_map_or (λ x. if same_number x.activated d then Some true else if makes d x.event then Some false else None) v false))
        ∙ sym ((λ i. same_number (tells i) (epoch_kept s.seen before shut i + 1)) ∙ not_yet past (epoch_in_force before + 1) below)
      where
        below : (q : Past) → past ≡ Some q → epoch_now q < epoch_in_force before + 1
        below q there =
            let now : epoch_now q ≤ epoch_in_force before + cond false 1 0 =
            subst (λ b. epoch_now q ≤ epoch_in_force before + cond b 1 0) (stages_shut setting e earlier is stages) (pasts d q there).now in
            omega arith
    by earlier_is (goes_on shut unstaged was_open) =
        (λ i. map_or (if shut i then None else if unstaged i then Some [] else option_map (λ v. s.seen ∷ v) (window before)) false
        (λ v. find_map_or (λ x. if same_number x.activated d then Some true else if makes d x.event then Some false else None) v false))
        ∙ shown_in (λ x. if same_number x.activated d then Some true else if makes d x.event then Some false else None) s.seen (window before) was_open
        ∙ (λ i. map_or (if activated_is (has_turned steps first_of) (device_of e) d i then Some true else if makes d e then Some false else None)
        (has_entered before d) (λ told. told))
        ∙ made_or_not (makes d e) refl
        ∙ (λ i. same_number (epoch_in (chronicle setting (e ∷ earlier)) d) (sym (epoch_kept s.seen before shut) i + 1))
      where
        first_of : Step
        first_of = first_step setting (chronicle setting earlier) e (told_by (chronicle setting earlier) (act_by setting (chronicle setting earlier) e))

        after_ : Bool
        after_ = same_number (epoch_in (chronicle setting (e ∷ earlier)) d) (staged_epoch before)

        before_ : Bool
        before_ = same_number (epoch_in (chronicle setting earlier) d) (staged_epoch before)

        named : Bool
        named = same_number (device_of e) d

        made_or_not : (m : Bool) → makes d e ≡ m
            → map_or (if named && ((window_is_open before && after_) && not before_) then Some true else if makes d e then Some false else None)
            (has_entered before d) (λ told. told) ≡ after_
        made_or_not true made =
            (λ i. map_or (if named && ((window_is_open before && low i) && not before_) then Some true else if made i then Some false else None)
            (has_entered before d) (λ told. told))
            ∙ made_now named (window_is_open before) before_ (has_entered before d)
            ∙ sym low
          where
            low : after_ ≡ false
            low =
                (λ i. same_number (tells i) (staged_epoch before))
                ∙ not_yet past (staged_epoch before) (λ q there.
                let under : epoch_now q ≤ epoch_in_force before = made_low setting steps e d (past_in steps d) q made there in
                omega arith)
        made_or_not false unmade =
            (λ i. map_or (if named && ((was_open i && after_) && not before_) then Some true else if unmade i then Some false else None)
            (earlier_is was_open was_up i) (λ told. told))
            ∙ entered_now named after_ before_ stays same
          where
            was_up : is_up before d ≡ true
            was_up = up_case (makes d e) (fails (thing.Device d) e) (is_up before d) up unmade

            greatest : latest before ≡ staged_epoch before
            greatest = ap (λ b. epoch_in_force before + cond b 1 0) was_open

            told_after : same_number (number past) (latest before) ≡ after_
            told_after = λ i. same_number (sym tells i) (greatest i)

            told_before : same_number (number (past_in (chronicle setting earlier) d)) (latest before) ≡ before_
            told_before = λ i. same_number (sym (tells_number setting earlier d was_up) i) (greatest i)

            old : (q : Past) → past_in (chronicle setting earlier) d ≡ Some q → IsWithin (latest before) (epoch_now q) (given_now q)
            old q there = all_within setting earlier d q there

            stays : before_ ≡ true → after_ ≡ true
            stays is_staged =
                sym told_after
                ∙ keeps before e d (past_in (chronicle setting earlier) d) old unmade (act_by setting (chronicle setting earlier) e)
                (brings setting (chronicle setting earlier) e) (told_before ∙ is_staged)

            other : named ≡ false → (o : Option ℕ) → changed (act_by setting (chronicle setting earlier) e) ≡ o → same_number o d ≡ false
            other unnamed None changes = refl
            other unnamed (Some x) changes =
                ap (λ o. same_number o d) (sym (changed_named setting (chronicle setting earlier) e x changes)) ∙ unnamed

            same : named ≡ false → after_ ≡ before_
            same unnamed =
                sym told_after
                ∙ ap (λ o. same_number o (latest before))
                (elsewhere before e d (past_in (chronicle setting earlier) d) old unmade (act_by setting (chronicle setting earlier) e)
                (brings setting (chronicle setting earlier) e) (other unnamed (changed (act_by setting (chronicle setting earlier) e)) refl))
                ∙ told_before

-- so in every run of nodes that tell what the words say
pub entered_is_own_in_runs : {N : Type 0} (g : Ghosts N) (setting : Setting) (run : List (NodeStep N)) → IsAdmittedRun g setting run → TellsByWords run
    → EnteredIsOwn (steps_of run)
entered_is_own_in_runs g setting run is tells =
    subst EnteredIsOwn (sym (admitted_run_is_chronicle g setting run is tells))
    (entered_is_own setting (events_of (steps_of run)) (admitted_run_is_history g setting run is tells))

-- and so the premise on renewals asks at the first seal for the devices' own numbers
pub seals_are_of_own : (setting : Setting) (steps : List Step) → EnteredIsOwn steps → SealsAreOfOwn setting steps
seals_are_of_own setting steps own s =
    ap (λ b. not (is_seal s.event) || has_seal (seen_of steps) || b) (by (window (seen_of steps)) refl)
  where
    each : window_is_open (seen_of steps) ≡ true → (ds : List ℕ)
        → list_all (λ d. not (is_up (seen_of steps) d) || has_entered (seen_of steps) d) ds
        ≡ list_all (λ d. not (is_up (seen_of steps) d) || same_number (epoch_in steps d) (staged_epoch (seen_of steps))) ds
    each open_ [] = refl
    each open_ (d ∷ ds) = λ i. one (is_up (seen_of steps) d) refl i && each open_ ds i
      where
        one : (up : Bool) → is_up (seen_of steps) d ≡ up
            → (not (is_up (seen_of steps) d) || has_entered (seen_of steps) d)
            ≡ (not (is_up (seen_of steps) d) || same_number (epoch_in steps d) (staged_epoch (seen_of steps)))
        one true up = ap (λ b. not (is_up (seen_of steps) d) || b) (own open_ d up)
        one false up =
            (λ i. not (up i) || has_entered (seen_of steps) d)
            ∙ sym (λ i. not (up i) || same_number (epoch_in steps d) (staged_epoch (seen_of steps)))

    by : (w : Option (List Seen)) → window (seen_of steps) ≡ w
        → map_or (staged setting (seen_of steps)) true (λ plan.
        list_all (λ d. not (is_up (seen_of steps) d) || has_entered (seen_of steps) d) (members setting.net plan))
        ≡ map_or (staged setting (seen_of steps)) true (λ plan.
        list_all (λ d. not (is_up (seen_of steps) d) || same_number (epoch_in steps d) (staged_epoch (seen_of steps))) (members setting.net plan))
    by None shut =
        (λ i. map_or (option_map (λ v. plan_numbered setting (staged_epoch (seen_of steps))) (shut i)) true (λ plan.
        list_all (λ d. not (is_up (seen_of steps) d) || has_entered (seen_of steps) d) (members setting.net plan)))
        ∙ sym (λ i. map_or (option_map (λ v. plan_numbered setting (staged_epoch (seen_of steps))) (shut i)) true (λ plan.
        list_all (λ d. not (is_up (seen_of steps) d) || same_number (epoch_in steps d) (staged_epoch (seen_of steps))) (members setting.net plan)))
    by (Some v) open_ =
        λ i. map_or (staged setting (seen_of steps)) true (λ plan. each (ap (λ (o : Option (List Seen)). is_some o) open_) (members setting.net plan) i)

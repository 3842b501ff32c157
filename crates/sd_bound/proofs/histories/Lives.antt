-- Lives in a history without a stage: a device is started at most once, and nothing that it is called with gives it a duty. So each device has
-- one life with one entry, and what it did is not undone.
use Rattle.std.specs.Prelude.{◌≡◌, ℕ, Bool, true, false, ◌||◌, not, List, [], ◌∷◌, nat_eq, Option, Some, None, is_some, option_map, ◌⊎◌, refl, if◌then◌else◌}
use Rattle.std.proofs.Common.{sym, ◌∙◌, ap, subst, inl, inr}
use Rattle.std.proofs.lemmas.Bool.{or_parts, or_left, or_right, not-false, eqb-true, eq-eqb, both_ways}
use Rattle.sd_num.specs.Lists.{map_or, same_number}
use Rattle.sd_plan.specs.declared.topo.Thing.TheVariants as thing
use Rattle.sd_plan.specs.declared.Duty.{Duty}
use Rattle.sd_plan.specs.Duties.{duty_of}
use Rattle.sd_history.specs.Admitted.{Admits}
use Rattle.sd_device.specs.declared.msg.Message.{Message}
use Rattle.sd_device.specs.declared.msg.Flight.{Flight}
use Rattle.sd_device.specs.Calls as calls
use Rattle.sd_device.specs.Calls.{Making, Call, Past}
use Rattle.sd_device.specs.Words.{transition_of, after, taken_up, duty_given, given_now}
use Rattle.sd_sched.specs.declared.Event.{Event}
use Rattle.sd_sched.specs.declared.Event.TheVariants as event
use Rattle.sd_sched.specs.Events.{started, joined}
use Rattle.sd_history.specs.World.{Setting, Seen, makes, fails, is_up, was_made, has_ever_failed, epoch_in_force, in_force}
use Rattle.sd_history.specs.Steps.{Act, Makes, Calls, Asks, Passes, Step, seen_of, flight_numbered, act_by}
use Rattle.sd_history.specs.Refusals.{not_started, started_twice}
use Rattle.sd_history.specs.Chronicle.{new_past, past_after, past_in, chronicle}
use Rattle.sd_history.proofs.Clear.{clear}
use Rattle.sd_history.proofs.Given.{some_is, takes_given, given_stays_or_goes}
use Rattle.sd_history.proofs.Known.{has_some, kept_past}
use Rattle.sd_safety.proofs.timers.Pasts.{Inside, itself, onward}
use Rattle.sd_safety.specs.messages.Moments.{Tail, whole, behind}
use Rattle.sd_safety.proofs.messages.Receipts.{device_is, call_is}
use Rattle.sd_safety.proofs.windows.Given.{maker_is}
use Rattle.sd_bound.proofs.histories.Plain.{IsPlain, plain_before, IsPlainEvent, plain_event}

-- Acts

-- the past after an act: of the making, of the past before with the call, or the past before
pub data PastBy (act : Act) (d : ℕ) (before : Option Past) (past : Past) : Type 0 where
  by_making : (making : Making) → act ≡ Makes d making → past ≡ new_past making → PastBy act d before past
  by_call : (old : Past) (call : Call) → act ≡ Calls d call → before ≡ Some old → past ≡ after old call → PastBy act d before past
  unchanged : before ≡ Some past → PastBy act d before past

pub past_by : (act : Act) (d : ℕ) (before : Option Past) (past : Past) → past_after act d before ≡ Some past → PastBy act d before past
past_by (Makes m making) d before past same = go (nat_eq m d) refl same
  where
    go : (b : Bool) → nat_eq m d ≡ b → (if b then Some (new_past making) else before) ≡ Some past → PastBy (Makes m making) d before past
    go true equal same' = by_making making (ap (λ x. Makes x making) (eqb-true m d equal)) (sym (some_is same'))
    go false equal same' = unchanged same'
past_by (Calls m call) d before past same = go (nat_eq m d) refl before refl same
  where
    go : (b : Bool) → nat_eq m d ≡ b → (o : Option Past) → before ≡ o → (if b then option_map (λ q. after q call) o else o) ≡ Some past
        → PastBy (Calls m call) d before past
    go true equal None is same' = cc
    go true equal (Some old) is same' = by_call old call (ap (λ x. Calls x call) (eqb-true m d equal)) is (sym (some_is same'))
    go false equal o is same' = unchanged (is ∙ same')
past_by (Asks m counter) d before past same = unchanged same
past_by Passes d before past same = unchanged same

-- who is made, by which event
pub record IsStarted (setting : Setting) (steps : List Step) (e : Event) (d : ℕ) (making : Making) : Type 0 where
  pub reference : ℕ
  pub counter : ℕ
  pub clock : ℕ
  pub eps : ℕ
  pub event_is : e ≡ event.Start reference d counter clock eps
  pub making_is : making ≡ calls.Started (duty_of setting.net (in_force setting (seen_of steps)) (epoch_in_force (seen_of steps)) d) counter clock eps

making_is : {d e : ℕ} {a b : Making} → Makes d a ≡ Makes e b → a ≡ b
making_is {a = a} same = ap (λ act. elim act [ Makes x making ↦ making | _ ↦ a ]) same

started_at : (setting : Setting) (steps : List Step) (r m c clock eps d : ℕ) (making : Making) → m ≡ d
    → calls.Started (duty_of setting.net (in_force setting (seen_of steps)) (epoch_in_force (seen_of steps)) m) c clock eps ≡ making
    → IsStarted setting steps (event.Start r m c clock eps) d making
started_at setting steps r m c clock eps d making same is =
    record {
      reference = r;
      counter = c;
      clock = clock;
      eps = eps;
      event_is = ap (λ x. event.Start r x c clock eps) same;
      making_is = sym is ∙ ap (λ x. calls.Started (duty_of setting.net (in_force setting (seen_of steps)) (epoch_in_force (seen_of steps)) x) c clock eps) same;
    }

none_made : (o : Option Flight) (d : ℕ) (making : Making) (call : Flight → Call) (m : ℕ) → map_or o Passes (λ f. Calls m (call f)) ≡ Makes d making → ⊥
none_made None d making call m same = cc
none_made (Some f) d making call m same = cc

pub made_by : (setting : Setting) (steps : List Step) (e : Event) (d : ℕ) (making : Making) → IsPlainEvent e → act_by setting steps e ≡ Makes d making
    → IsStarted setting steps e d making
made_by setting steps (event.Start r m c clock eps) d making plain same = started_at setting steps r m c clock eps d making (maker_is same) (making_is same)
made_by setting steps (event.Join r m c clock eps) d making plain same = let none = plain.joined in cc
made_by setting steps (event.Recv r m c n) d making plain same =
    absurd (none_made (flight_numbered steps n) d making (λ f. calls.Receive f.link f.message c) m same)
made_by setting steps (event.Give r m) d making plain same = let none = plain.given in cc
made_by setting steps _ d making plain same = cc

-- what a device is called with, by which event
pub data Called (e : Event) (d : ℕ) : Call → Type 0 where
  ticks : (reference counter : ℕ) → e ≡ event.Tick reference d counter → Called e d (calls.Tick counter)
  receives : (reference counter number link : ℕ) (message : Message) → e ≡ event.Recv reference d counter number
      → Called e d (calls.Receive link message counter)
  fixes : (reference counter clock eps : ℕ) → e ≡ event.Fix reference d counter clock eps → Called e d (calls.Fix counter clock eps)

received_by : (r m c n : ℕ) (o : Option Flight) (d : ℕ) (call : Call) → map_or o Passes (λ f. Calls m (calls.Receive f.link f.message c)) ≡ Calls d call
    → Called (event.Recv r m c n) d call
received_by r m c n None d call same = cc
received_by r m c n (Some f) d call same =
    subst (Called (event.Recv r m c n) d) (call_is same) (receives r c n f.link f.message (ap (λ x. event.Recv r x c n) (device_is same)))

pub called_by : (setting : Setting) (steps : List Step) (e : Event) (d : ℕ) (call : Call) → IsPlainEvent e → act_by setting steps e ≡ Calls d call
    → Called e d call
called_by setting steps (event.Tick r m c) d call plain same =
    subst (Called (event.Tick r m c) d) (call_is same) (ticks r c (ap (λ x. event.Tick r x c) (device_is same)))
called_by setting steps (event.Recv r m c n) d call plain same = received_by r m c n (flight_numbered steps n) d call same
called_by setting steps (event.Fix r m c clock eps) d call plain same =
    subst (Called (event.Fix r m c clock eps) d) (call_is same) (fixes r c clock eps (ap (λ x. event.Fix r x c clock eps) (device_is same)))
called_by setting steps (event.Give r m) d call plain same = let none = plain.given in cc
called_by setting steps (event.Commit r m c) d call plain same = let none = plain.commit in cc
called_by setting steps (event.Seal r m) d call plain same = let none = plain.seal in cc
called_by setting steps _ d call plain same = cc

pub gives_none : (e : Event) (d : ℕ) (call : Call) → Called e d call → duty_given call ≡ None
gives_none e d _ (ticks r c is) = refl
gives_none e d _ (receives r c n l m is) = refl
gives_none e d _ (fixes r c clock eps is) = refl

-- Who is called is up, before and after.

up_when : (seen : List Seen) (d : ℕ) → not (is_up seen d) ≡ false → is_up seen d ≡ true
up_when seen d is = not-false (is_up seen d) is

is_started : (setting : Setting) (steps : List Step) (e : Event) → Admits setting steps e → not_started (seen_of steps) e ≡ false
is_started setting steps e none = (clear setting steps e none).device_up

pub called_is_up : (setting : Setting) (steps : List Step) (e : Event) (d : ℕ) (call : Call) → Admits setting steps e → Called e d call
    → is_up (seen_of steps) d ≡ true
called_is_up setting steps e d _ none (ticks r c is) =
    up_when (seen_of steps) d (subst (λ x. not_started (seen_of steps) x ≡ false) is (is_started setting steps e none))
called_is_up setting steps e d _ none (receives r c n l m is) =
    up_when (seen_of steps) d (subst (λ x. not_started (seen_of steps) x ≡ false) is (is_started setting steps e none))
called_is_up setting steps e d _ none (fixes r c clock eps is) =
    up_when (seen_of steps) d (subst (λ x. not_started (seen_of steps) x ≡ false) is (is_started setting steps e none))

-- what an event that neither makes nor fails a device leaves
up_after_call : (e : Event) (d : ℕ) (call : Call) (before : Bool) → Called e d call → before ≡ true
    → map_or (if makes d e then Some true else if fails (thing.Device d) e then Some false else None) before (λ x. x) ≡ true
up_after_call e d _ before (ticks r c is) up =
    subst (λ x. map_or (if makes d x then Some true else if fails (thing.Device d) x then Some false else None) before (λ y. y) ≡ true) (sym is) up
up_after_call e d _ before (receives r c n l m is) up =
    subst (λ x. map_or (if makes d x then Some true else if fails (thing.Device d) x then Some false else None) before (λ y. y) ≡ true) (sym is) up
up_after_call e d _ before (fixes r c clock eps is) up =
    subst (λ x. map_or (if makes d x then Some true else if fails (thing.Device d) x then Some false else None) before (λ y. y) ≡ true) (sym is) up

pub called_stays_up : (setting : Setting) (history : List Event) (e : Event) (d : ℕ) (call : Call) → Admits setting (chronicle setting history) e
    → Called e d call → is_up (seen_of (chronicle setting (e ∷ history))) d ≡ true
called_stays_up setting history e d call none by =
    up_after_call e d call (is_up (seen_of (chronicle setting history)) d) by (called_is_up setting (chronicle setting history) e d call none by)

started_makes : (e : Event) (d : ℕ) → started e ≡ Some d → makes d e ≡ true
started_makes e d is = or_left (same_number (started e) d) (same_number (joined e) d) (ap (λ o. same_number o d) is ∙ eq-eqb d d refl)

pub started_is_up : (setting : Setting) (history : List Event) (e : Event) (d : ℕ) → started e ≡ Some d
    → is_up (seen_of (chronicle setting (e ∷ history))) d ≡ true
started_is_up setting history e d is =
    ap (λ b. map_or (if b then Some true else if fails (thing.Device d) e then Some false else None) (is_up (seen_of (chronicle setting history)) d) (λ x. x))
    (started_makes e d is)

-- One life

pub had_past : (setting : Setting) {older history : List Event} → Tail older history → (d : ℕ) → is_some (past_in (chronicle setting older) d) ≡ true
    → is_some (past_in (chronicle setting history) d) ≡ true
had_past setting whole d some = some
had_past setting (behind {x = e} {xs = history} t) d some =
    kept_past (act_by setting (chronicle setting history) e) d (past_in (chronicle setting history) d) (had_past setting t d some)

-- who has a past was started
pub past_was_made : (setting : Setting) (history : List Event) → IsPlain setting history → (d : ℕ) (past : Past)
    → past_in (chronicle setting history) d ≡ Some past → was_made (seen_of (chronicle setting history)) d ≡ true
past_was_made setting [] plain d past there = cc
past_was_made setting (e ∷ history) plain d past there =
    go (λ q was. past_was_made setting history (plain_before setting e history plain) d q was)
    (past_by (act_by setting (chronicle setting history) e) d (past_in (chronicle setting history) d) past there)
  where
    go : ((q : Past) → past_in (chronicle setting history) d ≡ Some q → was_made (seen_of (chronicle setting history)) d ≡ true)
        → PastBy (act_by setting (chronicle setting history) e) d (past_in (chronicle setting history) d) past
        → was_made (seen_of (chronicle setting (e ∷ history))) d ≡ true
    go earlier (by_making making act is) =
        let by = made_by setting (chronicle setting history) e d making (plain_event setting e history plain) act in
        or_left (makes d e) (was_made (seen_of (chronicle setting history)) d) (started_makes e d (ap started by.event_is))
    go earlier (by_call old call act was is) = or_right (makes d e) (was_made (seen_of (chronicle setting history)) d) (earlier old was)
    go earlier (unchanged was) = or_right (makes d e) (was_made (seen_of (chronicle setting history)) d) (earlier past was)

-- a start makes no device that has a past
pub made_once : (setting : Setting) (e : Event) (history : List Event) → IsPlain setting (e ∷ history) → (d : ℕ) (making : Making) (old : Past)
    → act_by setting (chronicle setting history) e ≡ Makes d making
    → past_in (chronicle setting history) d ≡ Some old → ⊥
made_once setting e history plain d making old act was =
    let steps = chronicle setting history in
    let by = made_by setting steps e d making (plain_event setting e history plain) act in
    let twice : started_twice setting (seen_of steps) e ≡ false =
    (clear setting steps e plain.is.1).started_once in
    let unmade : was_made (seen_of steps) d ≡ false =
    ap (λ x. map_or (started x) false (was_made (seen_of steps))) (sym by.event_is)
    ∙ (or_parts (map_or (started e) false (was_made (seen_of steps))) _ twice).0 in
    both_ways (was_made (seen_of steps) d) unmade (past_was_made setting history (plain_before setting e history plain) d old was)

-- Nothing is given, so nothing is taken up.

given_by : (past : Past) (call : Call) → given_now past ≡ None → (given_now (after past call) ≡ given_now past) ⊎ (given_now (after past call) ≡ None)
    → given_now (after past call) ≡ None
given_by past call none (inl same) = same ∙ none
given_by past call none (inr gone) = gone

pub none_given : (setting : Setting) (history : List Event) → IsPlain setting history → (d : ℕ) (past : Past)
    → past_in (chronicle setting history) d ≡ Some past → given_now past ≡ None
none_given setting [] plain d past there = cc
none_given setting (e ∷ history) plain d past there =
    go (λ q was. none_given setting history (plain_before setting e history plain) d q was)
    (past_by (act_by setting (chronicle setting history) e) d (past_in (chronicle setting history) d) past there)
  where
    go : ((q : Past) → past_in (chronicle setting history) d ≡ Some q → given_now q ≡ None)
        → PastBy (act_by setting (chronicle setting history) e) d (past_in (chronicle setting history) d) past → given_now past ≡ None
    go earlier (by_making making act is) = ap given_now is
    go earlier (by_call old call act was is) =
        ap given_now is
        ∙ given_by old call (earlier old was)
        (given_stays_or_goes old call
        (gives_none e d call (called_by setting (chronicle setting history) e d call (plain_event setting e history plain) act)))
    go earlier (unchanged was) = earlier past was

pub takes_none : (past : Past) (call : Call) → given_now past ≡ None → taken_up (transition_of past call) ≡ None
takes_none past call none = go (taken_up (transition_of past call)) refl
  where
    go : (u : Option Duty) → taken_up (transition_of past call) ≡ u → u ≡ None
    go None is = refl
    go (Some duty) is = let given : given_now past ≡ Some duty = takes_given past call duty is in cc

-- the pasts of a device are all of one entry
pub inside_of : (setting : Setting) {older history : List Event} → Tail older history → IsPlain setting history → (d : ℕ) (old past : Past)
    → past_in (chronicle setting older) d ≡ Some old
    → past_in (chronicle setting history) d ≡ Some past → Inside old past
inside_of setting whole plain d old past was there = subst (Inside old) (some_is (sym was ∙ there)) itself
inside_of setting {older = older} (behind {x = e} {xs = history} t) plain d old past was there =
    go (λ q was'. inside_of setting t (plain_before setting e history plain) d old q was was')
    (past_by (act_by setting (chronicle setting history) e) d (past_in (chronicle setting history) d) past there)
  where
    go : ((q : Past) → past_in (chronicle setting history) d ≡ Some q → Inside old q)
        → PastBy (act_by setting (chronicle setting history) e) d (past_in (chronicle setting history) d) past → Inside old past
    go earlier (by_making making act is) =
        let some = has_some (past_in (chronicle setting history) d) (had_past setting t d (ap is_some was)) in
        absurd (made_once setting e history plain d making some.0 act some.1)
    go earlier (by_call q call act was' is) =
        subst (Inside old) (sym is)
        (onward call (takes_none q call (none_given setting history (plain_before setting e history plain) d q was')) (earlier q was'))
    go earlier (unchanged was') = earlier past was'

-- Who was made and never failed is up.

up_by : (m f : Bool) (seen : List Seen) (d : ℕ) → (m || was_made seen d) ≡ true → (f || has_ever_failed seen d) ≡ false
    → (was_made seen d ≡ true → has_ever_failed seen d ≡ false → is_up seen d ≡ true)
    → map_or (if m then Some true else if f then Some false else None) (is_up seen d) (λ x. x) ≡ true
up_by true f seen d made sound rest = refl
up_by false true seen d made sound rest = cc
up_by false false seen d made sound rest = rest made sound

-- Before a commit a device that is up and was given its duty in the window holds the staged duty as given. So at a commit each member of the staged
-- plan is new, or old or blank with its duty given (C9 b).
use Rattle.std.specs.Prelude.{◌≡◌, ℕ, ◌+◌, ◌≤◌, Bool, true, false, ◌&&◌, ◌||◌, not, List, [], ◌∷◌, cond, nat_eq, Option, Some, None, is_some, option_map, option_and_then, refl, if◌then◌else◌}
use Rattle.std.specs.List.{list_any}
use Rattle.std.proofs.Common.{◌∙◌, ap, sym, subst}
use Rattle.std.proofs.lemmas.Bool.{and_parts, or_parts, eqb-true, eq-eqb, false_from_ne_true}
use Rattle.sd_num.specs.Lists.{map_or, same_number, find_map_or, leading}
use Rattle.sd_plan.specs.declared.topo.Thing.TheVariants as thing
use Rattle.sd_plan.specs.declared.Duty.{Duty}
use Rattle.sd_plan.specs.declared.Plan.{Plan}
use Rattle.sd_plan.specs.Duties.{duty_of}
use Rattle.sd_device.specs.declared.msg.Flight.{Flight}
use Rattle.sd_device.specs.Calls as calls
use Rattle.sd_device.specs.Calls.{Making, Call, CallDone, Past}
use Rattle.sd_device.specs.Words.{after, transition_of, taken_up, takes_up, duty_now, given_now, duty_given, epoch_now}
use Rattle.sd_sched.specs.declared.Event.{Event}
use Rattle.sd_sched.specs.declared.Event.TheVariants as event
use Rattle.sd_sched.specs.Events.{started, joined, given, is_stage, is_commit}
use Rattle.sd_history.specs.World.{Setting, Seen, makes, fails, is_up, window, has_commit, staged, staged_epoch}
use Rattle.sd_history.specs.Steps.{Act, Makes, Calls, Asks, Passes, Step, seen_of, act_by, flight_numbered, given_in}
use Rattle.sd_history.specs.Chronicle.{answers_by, new_past, past_in, past_after, next_step, chronicle}
use Rattle.sd_history.specs.Premises.{was_given}
use Rattle.sd_history.proofs.Given.{takes_given}
use Rattle.sd_safety.specs.messages.Stamping.{remakes}
use Rattle.sd_safety.proofs.messages.Tails.{history_chronicle}
use Rattle.sd_safety.proofs.messages.Hearing.{up_has_past}
use Rattle.sd_safety.specs.invariant.Eras.{era}
use Rattle.sd_safety.specs.invariant.Guarded.{IsSteady}
use Rattle.sd_safety.proofs.invariant.Parents.{live_is}
use Rattle.sd_safety.proofs.invariant.Orders.{renews, staged_before}
use Rattle.sd_safety.proofs.invariant.Prefix.{clean_before}
use Rattle.sd_safety.proofs.invariant.Sides.{not_both}
use Rattle.sd_safety.specs.windows.Reaching.{reach}
use Rattle.sd_safety.proofs.windows.Eras.{era_kept}
use Rattle.sd_safety.proofs.windows.NoneBeforeCommit.{within}
use Rattle.sd_safety.proofs.windows.Committing.{staged_some, staged_plan}
use Rattle.sd_safety.proofs.windows.StaysNew.{reached, starts_none, gives_of}
use Rattle.sd_safety.proofs.moves.Ahead.{up_since}
use Rattle.sd_safety.proofs.messages.Receipts.{device_is}

-- a device with a past to which the staged duty was given
pub record GivenPast (steps : List Step) (x : ℕ) : Type 0 where
  pub past : Past
  pub there : past_in steps x ≡ Some past
  pub duty : Duty
  pub given : given_now past ≡ Some duty
  pub epoch : duty.epoch ≡ staged_epoch (seen_of steps)

-- what 'given in the window' says of the events before the latest
record GivenWhen (s : Seen) (x : ℕ) (c st : Bool) (w : Option (List Seen)) : Type 0 where
  open_ : c ≡ false
  unstaged : st ≡ false
  opened : is_some w ≡ true
  unjoined : same_number (joined s.event) x ≡ false
  one : (same_number (given s.event) x
      || map_or w false (λ v. list_any (λ y. same_number (given y.event) x) (leading (λ y. not (same_number (joined y.event) x)) v))) ≡ true

given_when : (s : Seen) (x : ℕ) (c st : Bool) (w : Option (List Seen))
    → map_or (if c then None else if st then Some [] else option_map (λ v. s ∷ v) w) false
    (λ v. list_any (λ y. same_number (given y.event) x) (leading (λ y. not (same_number (joined y.event) x)) v)) ≡ true → GivenWhen s x c st w
given_when s x true st w is = cc
given_when s x false true w is = cc
given_when s x false false None is = cc
given_when s x false false (Some v) is = by (same_number (joined s.event) x) refl is
  where
    by : (j : Bool) → same_number (joined s.event) x ≡ j
        → list_any (λ y. same_number (given y.event) x) (if not j then s ∷ leading (λ y. not (same_number (joined y.event) x)) v else []) ≡ true
        → GivenWhen s x false false (Some v)
    by true joined_ is' = cc
    by false joined_ is' = record { open_ = refl; unstaged = refl; opened = refl; unjoined = joined_; one = is' }

uncommitted_when : (s : Seen) (c st : Bool) (w : Option (List Seen)) → c ≡ false → st ≡ false
    → map_or (if c then None else if st then Some [] else option_map (λ v. s ∷ v) w) false (λ v. list_any (λ y. is_commit y.event) v) ≡ false
    → map_or w false (λ v. list_any (λ y. is_commit y.event) v) ≡ false
uncommitted_when s true st w o u none = cc
uncommitted_when s false true w o u none = cc
uncommitted_when s false false None o u none = refl
uncommitted_when s false false (Some v) o u none = (or_parts (is_commit s.event) (list_any (λ y. is_commit y.event) v) none).1

unmade : (o p : Option ℕ) (x : ℕ) → is_some o ≡ false → same_number p x ≡ false → (same_number o x || same_number p x) ≡ false
unmade None p x none other = other
unmade (Some y) p x none other = cc

-- Acts

pub maker_is : {d m : ℕ} {a b : Making} → Makes d a ≡ Makes m b → d ≡ m
maker_is {d = d} same = ap (λ act. elim act [ Makes x making ↦ x | _ ↦ d ]) same

none_received : (d c m : ℕ) (call : Call) (o : Option Flight) → map_or o Passes (λ f. Calls d (calls.Receive f.link f.message c)) ≡ Calls m call
    → duty_given call ≡ None
none_received d c m call None same = cc
none_received d c m call (Some f) same = sym (ap gives_of same)

given_other : (d m : ℕ) (call : Call) (o : Option Plan) (duty : Plan → Duty) → map_or o Passes (λ plan. Calls d (calls.Give (duty plan))) ≡ Calls m call
    → nat_eq d m ≡ false → duty_given call ≡ None
given_other d m call None duty same apart = cc
given_other d m call (Some plan) duty same apart = absurd (not_both (nat_eq d m) (eq-eqb d m (device_is same)) apart)

-- a call of a device that the event gives nothing
gives_elsewhere : (setting : Setting) (steps : List Step) (e : Event) (m : ℕ) (call : Call) → act_by setting steps e ≡ Calls m call
    → same_number (given e) m ≡ false → duty_given call ≡ None
gives_elsewhere setting steps (event.Give r d) m call same apart =
    given_other d m call (staged setting (seen_of steps)) (λ plan. duty_of setting.net plan (staged_epoch (seen_of steps)) d) same apart
gives_elsewhere setting steps (event.Recv r d c n) m call same apart = none_received d c m call (flight_numbered steps n) same
gives_elsewhere setting steps _ m call same apart = sym (ap gives_of same)

made_or : (d m : ℕ) (p : Bool) → d ≡ m → (nat_eq d m || p) ≡ true
made_or d m p same = go (nat_eq d m) (eq-eqb d m same)
  where
    go : (b : Bool) → b ≡ true → (b || p) ≡ true
    go true is = refl
    go false is = cc

no_maker : (d c m : ℕ) (making : Making) (o : Option Flight) → map_or o Passes (λ f. Calls d (calls.Receive f.link f.message c)) ≡ Makes m making → ⊥
no_maker d c m making None same = cc
no_maker d c m making (Some f) same = cc

no_giver : (d m : ℕ) (making : Making) (o : Option Plan) (duty : Plan → Duty) → map_or o Passes (λ plan. Calls d (calls.Give (duty plan))) ≡ Makes m making → ⊥
no_giver d m making None duty same = cc
no_giver d m making (Some plan) duty same = cc

pub makes_named : (setting : Setting) (steps : List Step) (e : Event) (m : ℕ) (making : Making) → act_by setting steps e ≡ Makes m making → makes m e ≡ true
makes_named setting steps (event.Start r d c clock eps) m making same = made_or d m false (maker_is same)
makes_named setting steps (event.Join r d c clock eps) m making same = eq-eqb d m (maker_is same)
makes_named setting steps (event.Recv r d c n) m making same = absurd (no_maker d c m making (flight_numbered steps n) same)
makes_named setting steps (event.Give r d) m making same =
    absurd (no_giver d m making (staged setting (seen_of steps)) (λ plan. duty_of setting.net plan (staged_epoch (seen_of steps)) d) same)
makes_named setting steps _ m making same = cc

-- an event that does not make a device asks no making of it
pub remakes_none : (setting : Setting) (steps : List Step) (e : Event) (a : ℕ) → makes a e ≡ false → remakes a (act_by setting steps e) ≡ false
remakes_none setting steps e a none = by (act_by setting steps e) refl
  where
    by : (act : Act) → act_by setting steps e ≡ act → remakes a act ≡ false
    by (Makes m making) is =
        false_from_ne_true (nat_eq m a)
        (λ same. not_both (makes a e) (ap (λ x. makes x e) (sym (eqb-true m a same)) ∙ makes_named setting steps e m making is) none)
    by (Calls m call) is = refl
    by (Asks m counter) is = refl
    by Passes is = refl

pub kept_given : (y : CallDone) (did : List CallDone) (t : Bool) → takes_up y ≡ t → t ≡ false → duty_given y.call ≡ None
    → find_map_or (λ z. option_map Some (duty_given z.call)) (cond (not t) (y ∷ leading (λ z. not (takes_up z)) did) []) None
    ≡ find_map_or (λ z. option_map Some (duty_given z.call)) (leading (λ z. not (takes_up z)) did) None
kept_given y did true is none gives = cc
kept_given y did false is none gives =
    ap (λ o. map_or (option_map Some o) (find_map_or (λ z. option_map Some (duty_given z.call)) (leading (λ z. not (takes_up z)) did) None) (λ told. told)) gives

the_given : {u v : Duty} → Some u ≡ Some v → u.epoch ≡ v.epoch
the_given {u = u} same = ap (λ o. map_or o u.epoch (λ w. w.epoch)) same

-- a give calls its device with the staged duty
gives_here : (setting : Setting) (steps : List Step) (e : Event) (x : ℕ) → same_number (given e) x ≡ true
    → staged setting (seen_of steps) ≡ Some (staged_plan setting steps)
    → act_by setting steps e ≡ Calls x (calls.Give (duty_of setting.net (staged_plan setting steps) (staged_epoch (seen_of steps)) x))
gives_here setting steps (event.Give r d) x gives some =
    ap (λ o. map_or o Passes (λ plan. Calls d (calls.Give (duty_of setting.net plan (staged_epoch (seen_of steps)) d)))) some
    ∙ ap (λ k. Calls k (calls.Give (duty_of setting.net (staged_plan setting steps) (staged_epoch (seen_of steps)) k))) (eqb-true d x gives)
gives_here setting steps _ x gives some = cc

-- before a commit, who is up and was given its duty in the window holds it
pub given_so : (setting : Setting) (history : List Event) → IsSteady setting history → has_commit (seen_of (chronicle setting history)) ≡ false → (x : ℕ)
    → was_given (seen_of (chronicle setting history)) x ≡ true
    → is_up (seen_of (chronicle setting history)) x ≡ true → GivenPast (chronicle setting history) x
given_so setting [] clean none x gave up = cc
given_so setting (e ∷ history) clean none x gave up =
    let when = given_when s.seen x s.seen.closed (is_stage e) (window (seen_of (chronicle setting history))) gave in
    let before : has_commit (seen_of (chronicle setting history)) ≡ false =
    uncommitted_when s.seen s.seen.closed (is_stage e) (window (seen_of (chronicle setting history))) when.open_ when.unstaged none in
    let unstarted : is_some (started e) ≡ false =
    starts_none (is_some (started e)) (list_any (λ y. is_stage y.event) (seen_of (chronicle setting history)))
    (and_parts (not (is_some (started e) && list_any (λ y. is_stage y.event) (seen_of (chronicle setting history)))) _
    (renews setting e history clean).begins).0
    (staged_before (seen_of (chronicle setting history)) when.opened) in
    let not_made : makes x e ≡ false = unmade (started e) (joined e) x unstarted when.unjoined in
    let up_before : is_up (seen_of (chronicle setting history)) x ≡ true =
    up_since (makes x e) (fails (thing.Device x) e) (is_up (seen_of (chronicle setting history)) x) not_made up in
    go when.open_ when.opened not_made up_before (same_number (given e) x) refl when.one
    (λ gave'. given_so setting history (clean_before setting e history clean) before x gave' up_before)
  where
    s : Step
    s = next_step setting (chronicle setting history) e

    epoch_on : (next_step setting (chronicle setting history) e).seen.closed ≡ false
        → staged_epoch (seen_of (chronicle setting history)) ≡ staged_epoch (seen_of (chronicle setting (e ∷ history)))
    epoch_on open_ = sym (ap (λ n. n + 1) (era_kept (next_step setting (chronicle setting history) e) (chronicle setting history) open_))

    still : (act : Act) → act_by setting (chronicle setting history) e ≡ act → (next_step setting (chronicle setting history) e).seen.closed ≡ false
        → past_after act x (past_in (chronicle setting history) x) ≡ past_in (chronicle setting history) x
        → GivenPast (chronicle setting history) x → GivenPast (chronicle setting (e ∷ history)) x
    still act is open_ same of =
        record {
          past = of.past;
          there = ap (λ a. past_after a x (past_in (chronicle setting history) x)) is ∙ same ∙ of.there;
          duty = of.duty;
          given = of.given;
          epoch = of.epoch ∙ epoch_on open_;
        }

    called : (call : Call) → act_by setting (chronicle setting history) e ≡ Calls x call → (q : Past) → past_in (chronicle setting history) x ≡ Some q
        → past_in (chronicle setting (e ∷ history)) x ≡ Some (after q call)
    called call is q there =
        ap (λ a. past_after a x (past_in (chronicle setting history) x)) is
        ∙ ap (λ b. if b then option_map (λ p. after p call) (past_in (chronicle setting history) x) else past_in (chronicle setting history) x)
        (eq-eqb x x refl) ∙ ap (option_map (λ p. after p call)) there

    too_far : (c : Bool) → has_commit (seen_of (chronicle setting (e ∷ history))) ≡ c → c ≡ true → ⊥
    too_far c is commit = not_both (has_commit (seen_of (chronicle setting (e ∷ history)))) (is ∙ commit) none

    -- a call of the device that gives it nothing
    kept : (call : Call) → act_by setting (chronicle setting history) e ≡ Calls x call → (next_step setting (chronicle setting history) e).seen.closed ≡ false
        → duty_given call ≡ None → (of : GivenPast (chronicle setting history) x)
        → (t : Option Duty) → taken_up (transition_of of.past call) ≡ t → GivenPast (chronicle setting (e ∷ history)) x
    kept call is open_ gives of None takes =
        record {
          past = after of.past call;
          there = called call is of.past of.there;
          duty = of.duty;
          given = kept_given (record { call = call; transition = transition_of of.past call }) of.past.did
              (is_some (taken_up (transition_of of.past call))) refl (ap is_some takes) gives ∙ of.given;
          epoch = of.epoch ∙ epoch_on open_;
        }
    kept call is open_ gives of (Some v) takes =
        let same : v.epoch ≡ of.duty.epoch = the_given (sym (takes_given of.past call v takes) ∙ of.given) in
        let now : epoch_now (after of.past call) ≡ staged_epoch (seen_of (chronicle setting (e ∷ history))) =
        ap (λ o. map_or (map_or (option_map Some o) (duty_now of.past) (λ told. told)) 0 (λ u. u.epoch)) takes ∙ same ∙ of.epoch ∙ epoch_on open_ in
        let le = (within setting (e ∷ history) clean.is).epochs x (after of.past call) (called call is of.past of.there) in
        absurd
        (too_far (has_commit (seen_of (chronicle setting (e ∷ history)))) refl
        (reached (has_commit (seen_of (chronicle setting (e ∷ history)))) (era (chronicle setting (e ∷ history)))
        (subst (λ k. k ≤ reach (chronicle setting (e ∷ history))) now le)))

    by_act : (next_step setting (chronicle setting history) e).seen.closed ≡ false → makes x e ≡ false → same_number (given e) x ≡ false
        → GivenPast (chronicle setting history) x
        → (act : Act) → act_by setting (chronicle setting history) e ≡ act → GivenPast (chronicle setting (e ∷ history)) x
    by_act open_ not_made other of (Makes m making) is = by (nat_eq m x) refl
      where
        by : (b : Bool) → nat_eq m x ≡ b → GivenPast (chronicle setting (e ∷ history)) x
        by true same =
            absurd (not_both (makes x e) (subst (λ k. makes k e ≡ true) (eqb-true m x same) (makes_named setting (chronicle setting history) e m making is))
            not_made)
        by false same = still (Makes m making) is open_ (ap (λ b. if b then Some (new_past making) else past_in (chronicle setting history) x) same) of
    by_act open_ not_made other of (Calls m call) is = by (nat_eq m x) refl
      where
        by : (b : Bool) → nat_eq m x ≡ b → GivenPast (chronicle setting (e ∷ history)) x
        by true same =
            let here : act_by setting (chronicle setting history) e ≡ Calls x call = is ∙ ap (λ k. Calls k call) (eqb-true m x same) in
            kept call here open_ (gives_elsewhere setting (chronicle setting history) e x call here other) of (taken_up (transition_of of.past call)) refl
        by false same =
            still (Calls m call) is open_
            (ap (λ b. if b then option_map (λ q. after q call) (past_in (chronicle setting history) x) else past_in (chronicle setting history) x) same) of
    by_act open_ not_made other of (Asks m counter) is = still (Asks m counter) is open_ refl of
    by_act open_ not_made other of Passes is = still Passes is open_ refl of

    go : (next_step setting (chronicle setting history) e).seen.closed ≡ false → is_some (window (seen_of (chronicle setting history))) ≡ true
        → makes x e ≡ false → is_up (seen_of (chronicle setting history)) x ≡ true → (g : Bool) → same_number (given e) x ≡ g
        → (g || was_given (seen_of (chronicle setting history)) x) ≡ true
        → (was_given (seen_of (chronicle setting history)) x ≡ true → GivenPast (chronicle setting history) x)
        → GivenPast (chronicle setting (e ∷ history)) x
    go open_ opened not_made up_before false other one rest = by_act open_ not_made other (rest one) (act_by setting (chronicle setting history) e) refl
    go open_ opened not_made up_before true gives one rest =
        let duty : Duty = duty_of setting.net (staged_plan setting (chronicle setting history)) (staged_epoch (seen_of (chronicle setting history))) x in
        let is : act_by setting (chronicle setting history) e ≡ Calls x
        (calls.Give (duty_of setting.net (staged_plan setting (chronicle setting history)) (staged_epoch (seen_of (chronicle setting history))) x)) =
        gives_here setting (chronicle setting history) e x gives (staged_some setting (chronicle setting history) opened) in
        let own = up_has_past setting (chronicle setting history) x (history_chronicle setting history clean.is.0) up_before in
        record {
          past = after own.0 (calls.Give duty);
          there = called (calls.Give duty) is own.0 own.1;
          duty = duty;
          given = refl;
          epoch = epoch_on open_;
        }

-- so it answers that duty as given
pub answers_given : (setting : Setting) (history : List Event) (x : ℕ) → is_up (seen_of (chronicle setting history)) x ≡ true
    → GivenPast (chronicle setting history) x
    → given_in (chronicle setting history) x ≡ Some (staged_epoch (seen_of (chronicle setting history)))
answers_given setting history x up of =
    ap (option_and_then (λ a. option_map (λ (u : Duty). u.epoch) a.given))
    (live_is setting history x ∙ ap (option_map answers_by) (ap (λ b. if b then past_in (chronicle setting history) x else None) up ∙ of.there))
    ∙ ap (option_map (λ (u : Duty). u.epoch)) of.given ∙ ap Some of.epoch

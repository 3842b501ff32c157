-- New devices stay new: after a commit nothing fails, starts, joins, is mended or given, and a new device has no given duty, so it takes up none.
use Rattle.std.specs.Prelude.{◌≡◌, ℕ, ◌+◌, ◌≤◌, Bool, true, false, ◌&&◌, ◌||◌, not, List, [], ◌∷◌, cond, nat_eq, Option, Some, None, is_some, option_map, refl, ◌⊎◌, if◌then◌else◌}
use Rattle.std.specs.List.{list_any}
use Rattle.std.proofs.Common.{arith, ◌∙◌, ap, sym, subst, inl, inr}
use Rattle.std.proofs.lemmas.Bool.{and_parts}
use Rattle.sd_num.specs.Lists.{map_or, find_map_or, leading}
use Rattle.sd_plan.specs.declared.Duty.{Duty}
use Rattle.sd_plan.specs.declared.Plan.{Plan}
use Rattle.sd_plan.specs.Duties.{duty_of}
use Rattle.sd_device.specs.declared.msg.Flight.{Flight}
use Rattle.sd_device.specs.Calls as calls
use Rattle.sd_device.specs.Calls.{Call, CallDone, Past}
use Rattle.sd_device.specs.Words.{after, transition_of, taken_up, takes_up, duty_now, given_now, duty_given, epoch_now}
use Rattle.sd_sched.specs.declared.Event.{Event}
use Rattle.sd_sched.specs.declared.Event.TheVariants as event
use Rattle.sd_sched.specs.Events.{started, joined, given, is_stage, is_commit}
use Rattle.sd_history.specs.Things.{failure_of, mended}
use Rattle.sd_history.specs.World.{Setting, window, window_is_open, has_commit, staged, staged_epoch}
use Rattle.sd_history.specs.Steps.{Act, Makes, Calls, Asks, Passes, Step, seen_of, act_by, flight_numbered}
use Rattle.sd_history.specs.Chronicle.{new_past, past_in, past_after, next_step, chronicle}
use Rattle.sd_history.specs.Admitted.{IsAdmitted}
use Rattle.sd_history.specs.Premises.{has_mend}
use Rattle.sd_history.proofs.Given.{some_is, given_stays_or_goes}
use Rattle.sd_safety.specs.invariant.Eras.{era}
use Rattle.sd_safety.specs.invariant.Guarded.{IsSteady}
use Rattle.sd_safety.proofs.invariant.Orders.{renews, orderly, staged_before}
use Rattle.sd_safety.proofs.invariant.Sides.{not_both}
use Rattle.sd_safety.specs.windows.Reaching.{reach_of, reach}
use Rattle.sd_safety.proofs.windows.Eras.{era_kept, stages_shut}
use Rattle.sd_safety.proofs.windows.NoneBeforeCommit.{within}
use Rattle.sd_safety.proofs.windows.Closing.{commit_is_open}
use Rattle.sd_safety.proofs.windows.Links.{fails_none}

-- C9 a, at an event: what cannot come after a commit
pub record RestsAt (e : Event) : Type 0 where
  pub failure : is_some (failure_of e) ≡ false
  pub start : is_some (started e) ≡ false
  pub join : is_some (joined e) ≡ false
  pub mend : is_some (mended e) ≡ false
  pub give : is_some (given e) ≡ false
  pub commit : is_commit e ≡ false
  pub stage : is_stage e ≡ false

prepares_none : (g j m c opened : Bool) → ((g || j || m || c) && (not opened || true)) ≡ false → (g ≡ false) × (j ≡ false) × (m ≡ false) × (c ≡ false)
prepares_none false false false false opened h = (refl, refl, refl, refl)
prepares_none true j m c true h = cc
prepares_none true j m c false h = cc
prepares_none false true m c true h = cc
prepares_none false true m c false h = cc
prepares_none false false true c true h = cc
prepares_none false false true c false h = cc
prepares_none false false false true true h = cc
prepares_none false false false true false h = cc

pub starts_none : (start stage : Bool) → not (start && stage) ≡ true → stage ≡ true → start ≡ false
starts_none true true h is = cc
starts_none true false h is = cc
starts_none false stage h is = refl

stages_none : (stage opened : Bool) → (stage && opened) ≡ false → opened ≡ true → stage ≡ false
stages_none true true h is = cc
stages_none true false h is = cc
stages_none false opened h is = refl

pub rests_at : (setting : Setting) (e : Event) (history : List Event) → IsSteady setting (e ∷ history) → has_commit (seen_of (chronicle setting history)) ≡ true
    → RestsAt e
rests_at setting e history clean commit =
    let seen = seen_of (chronicle setting history) in
    let renew = renews setting e history clean in
    let opened : window_is_open seen ≡ true = commit_is_open seen commit in
    let none = prepares_none (is_some (given e)) (is_some (joined e)) (is_some (mended e)) (is_commit e) (window_is_open seen)
    (subst (λ b. ((is_some (given e) || is_some (joined e) || is_some (mended e) || is_commit e) && (not (window_is_open seen) || b)) ≡ false) commit
    (orderly setting e history clean.is).prepares) in
    record {
      failure = fails_none (is_some (failure_of e)) (has_mend seen)
          (subst (λ b. (not (is_some (failure_of e)) || not (has_mend seen || b)) ≡ true) commit renew.fails);
      start = starts_none (is_some (started e)) (list_any (λ x. is_stage x.event) seen)
          (and_parts (not (is_some (started e) && list_any (λ x. is_stage x.event) seen)) _ renew.begins).0 (staged_before seen opened);
      join = none.1;
      mend = none.2;
      give = none.0;
      commit = none.3;
      stage = stages_none (is_stage e) (window_is_open seen) (stages_shut setting e history clean.is) opened;
    }

-- What acts give and make

abbrev pub gives_of : Act → Option Duty
gives_of (Calls d call) = duty_given call
gives_of _ = None

abbrev pub makes_some : Act → Bool
makes_some (Makes d making) = true
makes_some _ = false

receipt_gives : (d c : ℕ) (o : Option Flight) → gives_of (map_or o Passes (λ f. Calls d (calls.Receive f.link f.message c))) ≡ None
receipt_gives d c None = refl
receipt_gives d c (Some f) = refl

act_gives_none : (setting : Setting) (steps : List Step) (e : Event) → is_some (given e) ≡ false → gives_of (act_by setting steps e) ≡ None
act_gives_none setting steps (event.Give r d) none = cc
act_gives_none setting steps (event.Recv r d c n) none = receipt_gives d c (flight_numbered steps n)
act_gives_none setting steps _ none = refl

receipt_makes : (d c : ℕ) (o : Option Flight) → makes_some (map_or o Passes (λ f. Calls d (calls.Receive f.link f.message c))) ≡ false
receipt_makes d c None = refl
receipt_makes d c (Some f) = refl

give_makes : (d : ℕ) (o : Option Plan) (duty : Plan → Duty) → makes_some (map_or o Passes (λ plan. Calls d (calls.Give (duty plan)))) ≡ false
give_makes d None duty = refl
give_makes d (Some plan) duty = refl

pub act_makes_none : (setting : Setting) (steps : List Step) (e : Event) → is_some (started e) ≡ false → is_some (joined e) ≡ false
    → makes_some (act_by setting steps e) ≡ false
act_makes_none setting steps (event.Start r d c clock eps) started_ joined_ = cc
act_makes_none setting steps (event.Join r d c clock eps) started_ joined_ = cc
act_makes_none setting steps (event.Recv r d c n) started_ joined_ = receipt_makes d c (flight_numbered steps n)
act_makes_none setting steps (event.Give r d) started_ joined_ =
    give_makes d (staged setting (seen_of steps)) (λ plan. duty_of setting.net plan (staged_epoch (seen_of steps)) d)
act_makes_none setting steps _ started_ joined_ = refl

-- A device of the staged epoch has no given duty.

pub reached : (c : Bool) (n : ℕ) → n + 1 ≤ reach_of c n → c ≡ true
reached true n le = refl
reached false n le = absurd (omega (arith, le))

taken_leaves_none : (x : CallDone) (did : List CallDone) (t : Bool) → takes_up x ≡ t → t ≡ true
    → find_map_or (λ y. option_map Some (duty_given y.call)) (cond (not t) (x ∷ leading (λ y. not (takes_up y)) did) []) None ≡ None
taken_leaves_none x did true is takes = refl
taken_leaves_none x did false is takes = cc

-- after a call: it took up a duty and has none given, or it has the epoch that it had
given_after : (past : Past) (call : Call) (n : ℕ) → duty_given call ≡ None → (epoch_now past ≡ n → given_now past ≡ None) → epoch_now (after past call) ≡ n
    → given_now (after past call) ≡ None
given_after past call n gives_none before is = go (taken_up (transition_of past call)) refl
  where
    x : CallDone
    x = record { call = call; transition = transition_of past call }

    kept : given_now past ≡ None → (given_now (after past call) ≡ given_now past) ⊎ (given_now (after past call) ≡ None) → given_now (after past call) ≡ None
    kept none (inl same) = same ∙ none
    kept none (inr gone) = gone

    epoch_same : (t : Option Duty) → taken_up (transition_of past call) ≡ t → t ≡ None → epoch_now (after past call) ≡ epoch_now past
    epoch_same t is' none = ap (λ o. map_or (map_or (option_map Some o) (duty_now past) (λ told. told)) 0 (λ u. u.epoch)) (is' ∙ none)

    go : (t : Option Duty) → taken_up (transition_of past call) ≡ t → given_now (after past call) ≡ None
    go (Some u) takes =
        taken_leaves_none (record { call = call; transition = transition_of past call }) past.did (is_some (taken_up (transition_of past call))) refl
        (ap is_some takes)
    go None takes = kept (before (sym (epoch_same None takes refl) ∙ is)) (given_stays_or_goes past call gives_none)

given_call : (m d : ℕ) (call : Call) (o : Option Plan) (duty : Plan → Duty) → map_or o Passes (λ plan. Calls d (calls.Give (duty plan))) ≡ Calls m call
    → (q : Past) → taken_up (transition_of q call) ≡ None
given_call m d call None duty same q = cc
given_call m d call (Some plan) duty same q =
    let is : calls.Give (duty plan) ≡ call = ap (λ act. elim act [ Calls x y ↦ y | _ ↦ call ]) same in
    sym (ap (λ y. taken_up (transition_of q y)) is)

-- a give takes up nothing
give_takes_none : (setting : Setting) (steps : List Step) (e : Event) (m : ℕ) (call : Call) → is_some (given e) ≡ true → act_by setting steps e ≡ Calls m call
    → (q : Past) → taken_up (transition_of q call) ≡ None
give_takes_none setting steps (event.Give r d) m call gives same q =
    given_call m d call (staged setting (seen_of steps)) (λ plan. duty_of setting.net plan (staged_epoch (seen_of steps)) d) same q
give_takes_none setting steps _ m call gives same q = cc

module _ (setting : Setting) where
  abbrev NewHasNone : List Step → Type 0
  NewHasNone steps = (x : ℕ) (past : Past) → past_in steps x ≡ Some past → epoch_now past ≡ staged_epoch (seen_of steps) → given_now past ≡ None

  none_after : (e : Event) (history : List Event) → IsAdmitted setting (e ∷ history) → NewHasNone (chronicle setting history) → (act : Act)
      → act_by setting (chronicle setting history) e ≡ act
      → (x : ℕ) (past : Past) → past_after act x (past_in (chronicle setting history) x) ≡ Some past
      → epoch_now past ≡ staged_epoch (seen_of (chronicle setting history)) → given_now past ≡ None
  none_after e history is old (Makes m making) act x past there epoch = go (nat_eq m x) there
    where
      go : (b : Bool) → (if b then Some (new_past making) else past_in (chronicle setting history) x) ≡ Some past → given_now past ≡ None
      go true there' = sym (ap given_now (some_is there'))
      go false there' = old x past there' epoch
  none_after e history is old (Calls m call) act x past there epoch = go (nat_eq m x) refl (past_in (chronicle setting history) x) refl there
    where
      by_given : (g : Bool) → is_some (given e) ≡ g → (q : Past) → past_in (chronicle setting history) x ≡ Some q
          → epoch_now (after q call) ≡ staged_epoch (seen_of (chronicle setting history)) → given_now (after q call) ≡ None
      by_given false gives q was epoch' =
          given_after q call (staged_epoch (seen_of (chronicle setting history)))
          (sym (ap gives_of act) ∙ act_gives_none setting (chronicle setting history) e gives) (old x q was) epoch'
      by_given true gives q was epoch' =
          let none = give_takes_none setting (chronicle setting history) e m call gives act q in
          let same : epoch_now q ≡ staged_epoch (seen_of (chronicle setting history)) =
          sym (ap (λ o. map_or (map_or (option_map Some o) (duty_now q) (λ told. told)) 0 (λ u. u.epoch)) none) ∙ epoch' in
          let le = (within setting history is.0).epochs x q was in
          let commit =
          reached (has_commit (seen_of (chronicle setting history))) (era (chronicle setting history))
          (subst (λ n. n ≤ reach (chronicle setting history)) same le) in
          absurd
          (not_both true refl
          (sym gives
          ∙ (prepares_none (is_some (given e)) (is_some (joined e)) (is_some (mended e)) (is_commit e) (window_is_open (seen_of (chronicle setting history)))
          (subst (λ b. ((is_some (given e) || is_some (joined e) || is_some (mended e) || is_commit e)
          && (not (window_is_open (seen_of (chronicle setting history))) || b)) ≡ false) commit (orderly setting e history is).prepares)).0))

      go : (b : Bool) → nat_eq m x ≡ b → (p : Option Past) → past_in (chronicle setting history) x ≡ p
          → (if b then option_map (λ q. after q call) p else p) ≡ Some past → given_now past ≡ None
      go true same None was there' = cc
      go true same (Some q) was there' =
          subst (λ p. given_now p ≡ None) (some_is there') (by_given (is_some (given e)) refl q was (ap epoch_now (some_is there') ∙ epoch))
      go false same p was there' = old x past (was ∙ there') epoch
  none_after e history is old (Asks m counter) act x past there epoch = old x past there epoch
  none_after e history is old Passes act x past there epoch = old x past there epoch

  -- right after a closing nothing is of the staged epoch
  pub shut_reach : (s : Step) (steps : List Step) → s.seen.closed ≡ true → reach (s ∷ steps) ≡ era (s ∷ steps)
  shut_reach s steps closed =
      ap (λ b. reach_of
      (map_or (if b then None else if is_stage s.seen.event then Some [] else option_map (λ w. s.seen ∷ w) (window (seen_of steps))) false
      (list_any (λ x. is_commit x.event))) (era (s ∷ steps))) closed

  -- a device of the staged epoch has no given duty
  pub new_has_none : (history : List Event) → IsAdmitted setting history → NewHasNone (chronicle setting history)
  new_has_none [] is = λ x past there epoch. cc
  new_has_none (e ∷ history) is =
      by (next_step setting (chronicle setting history) e).seen.closed refl
      (none_after e history is (new_has_none history is.0) (act_by setting (chronicle setting history) e) refl)
    where
      too_far : (n m : ℕ) → m ≡ n → n + 1 ≤ m → ⊥
      too_far n m same le = omega (arith, same, le)

      by : (c : Bool) → (next_step setting (chronicle setting history) e).seen.closed ≡ c
          → ((x : ℕ) (past : Past) → past_after (act_by setting (chronicle setting history) e) x (past_in (chronicle setting history) x) ≡ Some past
          → epoch_now past ≡ staged_epoch (seen_of (chronicle setting history)) → given_now past ≡ None)
          → NewHasNone (chronicle setting (e ∷ history))
      by true closed rest = λ x past there epoch.
          let le = (within setting (e ∷ history) is).epochs x past there in
          absurd
          (too_far (era (chronicle setting (e ∷ history))) (reach (chronicle setting (e ∷ history)))
          (shut_reach (next_step setting (chronicle setting history) e) (chronicle setting history) closed)
          (subst (λ n. n ≤ reach (chronicle setting (e ∷ history))) epoch le))
      by false open_ rest =
          λ x past there epoch. rest x past there
          (epoch ∙ ap (λ n. n + 1) (era_kept (next_step setting (chronicle setting history) e) (chronicle setting history) open_))

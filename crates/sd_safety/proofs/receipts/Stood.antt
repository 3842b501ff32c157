-- While an old backup root is on its primary, no device of its path but the root has moved or acted in the plan in force, at any event so far. By going back
-- from the newest
-- event: either the backup root was old and on its primary there too, so this is C5 and C2; or it had not started, and then nobody had moved (C0); or the plan
-- was not
-- yet in force, and then who was of it was new and on its primary (C9 d).
use Rattle.std.specs.Prelude.{◌≡◌, ℕ, ◌+◌, ◌<◌, ◌≤◌, Bool, true, false, ◌&&◌, ◌||◌, not, List, [], ◌∷◌, count_by, map, nat_eq, Option, Some, None, is_some, option_map, refl, if◌then◌else◌}
use Rattle.std.proofs.Common.{arith, ◌∙◌, ap, sym, subst}
use Rattle.std.proofs.lemmas.Bool.{and_parts, and_from, eqb-true, eq-eqb, false_from_ne_true}
use Rattle.sd_num.specs.Lists.{map_or, same_number, has}
use Rattle.sd_plan.specs.declared.topo.Thing.TheVariants as thing
use Rattle.sd_plan.specs.declared.Duty.{Duty}
use Rattle.sd_plan.specs.declared.Plan.{Plan}
use Rattle.sd_plan.specs.Plans.{is_member, is_root, is_backup_root}
use Rattle.sd_plan.specs.topo.Network.{rates_of}
use Rattle.sd_plan.specs.Walks.{walk}
use Rattle.sd_num.proofs.Shared.{unequal_swap}
use Rattle.sd_device.specs.Calls as calls
use Rattle.sd_device.specs.Calls.{Call, Past}
use Rattle.sd_device.specs.Words.{after, transition_of, taken_up, duty_now, epoch_now, has_moved, is_acting}
use Rattle.sd_sched.specs.declared.Event.{Event}
use Rattle.sd_sched.specs.declared.Event.TheVariants as event
use Rattle.sd_history.specs.World.{Setting, Seen, makes, fails, is_up, was_made, has_commit, plan_numbered}
use Rattle.sd_history.specs.Steps.{Answers, Step, seen_of, acts_in, epoch_in, parent_in}
use Rattle.sd_history.specs.Chronicle.{answers_by, new_past, past_in, chronicle, next_step}
use Rattle.sd_history.specs.Admitted.{IsAdmitted}
use Rattle.sd_history.proofs.Given.{takes_given}
use Rattle.sd_history.proofs.Known.{up_case}
use Rattle.sd_safety.specs.invariant.Eras.{era, plan_now, is_old, is_new, is_ordinary, live_past, moved, on_primary}
use Rattle.sd_safety.specs.invariant.Clauses.{is_beginning, above_backup_root, backup_root_stays, staged_root}
use Rattle.sd_safety.specs.invariant.Invariant.{Core, Invariant, AtEach}
use Rattle.sd_safety.specs.invariant.Guarded.{AreGuarded, IsSteady}
use Rattle.sd_safety.specs.invariant.Coming.{IsNextEvent}
use Rattle.sd_safety.proofs.invariant.Empty.{core_empty}
use Rattle.sd_safety.proofs.invariant.Closings.{start_closes_none}
use Rattle.sd_safety.proofs.invariant.Known.{old_is_up}
use Rattle.sd_safety.proofs.invariant.Parents.{live_is}
use Rattle.sd_safety.proofs.invariant.Prefix.{clean_before}
use Rattle.sd_safety.proofs.invariant.Sides.{implied, not_both}
use Rattle.sd_safety.proofs.invariant.Staying.{old_is_member}
use Rattle.sd_safety.proofs.timers.Pasts.{stays_moved, stays_acting, was_false}
use Rattle.sd_safety.proofs.waits.Beginning.{still}
use Rattle.sd_safety.proofs.waits.Epochs.{era_rises}
use Rattle.sd_safety.specs.messages.Moments.{Tail, whole, behind}
use Rattle.sd_safety.proofs.messages.Tails.{tail_trans}
use Rattle.sd_safety.proofs.windows.Leading.{stands_by}
use Rattle.sd_safety.specs.windows.Reaching.{reach}
use Rattle.sd_safety.proofs.windows.Eras.{era_kept, era_grows}
use Rattle.sd_safety.proofs.windows.NoneBeforeCommit.{within}
use Rattle.sd_safety.proofs.windows.Committing.{staged_some}
use Rattle.sd_safety.proofs.windows.Closing.{commit_is_open}
use Rattle.sd_safety.specs.frame.Descents.{StoodThen}
use Rattle.sd_safety.proofs.frame.Standing.{stands_now}
use Rattle.sd_safety.proofs.frame.Timely.{begins_before}
use Rattle.sd_safety.proofs.moves.Ahead.{IsAhead, always_ahead}
use Rattle.sd_safety.proofs.moves.Started.{now_is, starts_by, unmade}
use Rattle.sd_safety.proofs.receipts.Alive.{WasAlive, was_alive, IsOf, events_of_tail, Went, made, called, alone, went}

-- Pasts

pub put_so : (moved_ acts : Bool) → moved_ ≡ false → acts ≡ false → (not moved_ && not acts) ≡ true
put_so true acts m a = cc
put_so false true m a = cc
put_so false false m a = refl

-- a call that takes up no duty leaves the plan, and who has not moved and does not act after it had not moved and did not act
record Kept (past : Past) (call : Call) : Type 0 where
  epoch : epoch_now (after past call) ≡ epoch_now past
  unmoved : has_moved (after past call) ≡ false → has_moved past ≡ false
  idle : is_acting (after past call) ≡ false → is_acting past ≡ false

kept_by : (past : Past) (call : Call) → taken_up (transition_of past call) ≡ None → Kept past call
kept_by past call none =
    record {
      epoch = ap (λ o. map_or (map_or (option_map Some o) (duty_now past) (λ told. told)) 0 (λ (u : Duty). u.epoch)) none;
      unmoved = was_false (has_moved past) (has_moved (after past call)) (stays_moved past call (transition_of past call) none);
      idle = was_false (is_acting past) (is_acting (after past call)) (stays_acting past call (transition_of past call) none);
    }

pub taken_epoch : (past : Past) (call : Call) (u : Duty) → taken_up (transition_of past call) ≡ Some u → epoch_now (after past call) ≡ u.epoch
taken_epoch past call u takes = ap (λ o. map_or (map_or (option_map Some o) (duty_now past) (λ told. told)) 0 (λ (v : Duty). v.epoch)) takes

-- a device that is up, with its past
record IsThere (steps : List Step) (d : ℕ) : Type 0 where
  past : Past
  up : is_up (seen_of steps) d ≡ true
  there : past_in steps d ≡ Some past

module _ (setting : Setting) (history : List Event) (d : ℕ) (past : Past) (up : is_up (seen_of (chronicle setting history)) d ≡ true)
    (there : past_in (chronicle setting history) d ≡ Some past) where
  pub live : live_past (chronicle setting history) d ≡ Some past
  live = ap (λ b. if b then past_in (chronicle setting history) d else None) up ∙ there

  pub moved_is : moved (chronicle setting history) d ≡ has_moved past
  moved_is = ap (λ (o : Option Past). map_or o false has_moved) live

  pub acts_is : acts_in (chronicle setting history) d ≡ is_acting past
  acts_is = ap (λ (o : Option Answers). map_or o false (λ a. a.acts)) (live_is setting history d)
      ∙ ap (λ (o : Option Past). map_or (option_map answers_by o) false (λ a. a.acts)) live

  pub epoch_is : epoch_in (chronicle setting history) d ≡ Some (epoch_now past)
  epoch_is = ap (λ (o : Option Answers). option_map (λ a. a.epoch) o) (live_is setting history d)
      ∙ ap (λ (o : Option Past). option_map (λ a. a.epoch) (option_map answers_by o)) live

  pub primary_is : on_primary (chronicle setting history) d ≡ (not (has_moved past) && not (is_acting past))
  primary_is =
      ap (λ (o : Option Past). is_some o && not (map_or o false has_moved) && not (acts_in (chronicle setting history) d)) live
      ∙ ap (λ b. (true && not (has_moved past)) && not b) acts_is

up_has_past : (setting : Setting) (history : List Event) (d n : ℕ) → is_up (seen_of (chronicle setting history)) d ≡ true
    → same_number (epoch_in (chronicle setting history) d) n ≡ true → IsThere (chronicle setting history) d
up_has_past setting history d n up old = go (past_in (chronicle setting history) d) refl
  where
    none : past_in (chronicle setting history) d ≡ None → epoch_in (chronicle setting history) d ≡ None
    none gone =
        ap (λ (o : Option Answers). option_map (λ a. a.epoch) o) (live_is setting history d)
        ∙ ap (λ (o : Option Past). option_map (λ a. a.epoch) (option_map answers_by o))
        (ap (λ b. if b then past_in (chronicle setting history) d else None) up ∙ gone)

    never : (o : Option ℕ) → o ≡ None → same_number o n ≡ true → ⊥
    never None is same = cc
    never (Some x) is same = cc

    go : (p : Option Past) → past_in (chronicle setting history) d ≡ p → IsThere (chronicle setting history) d
    go None gone = absurd (never (epoch_in (chronicle setting history) d) (none gone) old)
    go (Some past) is = record { past = past; up = up; there = is }

-- Going back by an event

-- the backup root is of plan n and on its primary
record Stays (setting : Setting) (b n : ℕ) (history : List Event) : Type 0 where
  number : era (chronicle setting history) ≡ n
  old : is_old (chronicle setting history) b ≡ true
  primary : on_primary (chronicle setting history) b ≡ true

-- it was not made yet, and members may start
record IsYetToStart (setting : Setting) (b n : ℕ) (history : List Event) : Type 0 where
  number : era (chronicle setting history) ≡ n
  begins : is_beginning setting (chronicle setting history) ≡ true
  unmade_ : was_made (seen_of (chronicle setting history)) b ≡ false

-- one of these, or the plan is not in force yet
data BackThen (setting : Setting) (b n : ℕ) (history : List Event) : Type 0 where
  stays : Stays setting b n history → BackThen setting b n history
  starts : IsYetToStart setting b n history → BackThen setting b n history
  ahead : era (chronicle setting history) < n → BackThen setting b n history

-- so it is after these events, at which the invariant holds
record IsBack (setting : Setting) (b n : ℕ) (then_ : List Event) : Type 0 where
  clean : IsSteady setting then_
  each : AtEach (Invariant setting) (chronicle setting then_)
  there : BackThen setting b n then_

module _ (setting : Setting) (fair : AreGuarded setting) (b n : ℕ) (positive : 1 ≤ n) where
  module _ (e : Event) (history : List Event) (clean : IsSteady setting (e ∷ history)) (each : AtEach (Invariant setting) (chronicle setting history)) where
    comes : IsNextEvent setting history e
    comes = record { fair = fair; clean = clean; before = each }

    closed_back : (next_step setting (chronicle setting history) e).seen.closed ≡ true → era (chronicle setting (e ∷ history)) ≡ n
        → BackThen setting b n history
    closed_back closed number =
        ahead (less (era (chronicle setting history)) (era (chronicle setting (e ∷ history)))
        (era_grows (next_step setting (chronicle setting history) e) (chronicle setting history) closed) number)
      where
        less : (a c : ℕ) → c ≡ a + 1 → c ≡ n → a < n
        less a c grows is = omega (arith, grows, is)

    module _ (shut : (next_step setting (chronicle setting history) e).seen.closed ≡ false) (now : Stays setting b n (e ∷ history)) where
      same_era : era (chronicle setting (e ∷ history)) ≡ era (chronicle setting history)
      same_era = era_kept (next_step setting (chronicle setting history) e) (chronicle setting history) shut

      number_then : era (chronicle setting history) ≡ n
      number_then = sym same_era ∙ now.number

      -- it was not made with the event
      record IsUnmade : Type 0 where
        unmade_ : makes b e ≡ false
        up : is_up (seen_of (chronicle setting history)) b ≡ true

      -- it stood as it stands
      module _ (before : IsUnmade) (now_past then_past : Past) (there_now : past_in (chronicle setting (e ∷ history)) b ≡ Some now_past)
          (there_then : past_in (chronicle setting history) b ≡ Some then_past) where
        up_now : is_up (seen_of (chronicle setting (e ∷ history))) b ≡ true
        up_now = old_is_up (chronicle setting (e ∷ history)) b now.old

        epoch_here : epoch_now now_past ≡ n
        epoch_here =
            eqb-true (epoch_now now_past) n (sym (ap (λ o. same_number o n) (epoch_is setting (e ∷ history) b now_past up_now there_now))
            ∙ sym (ap (same_number (epoch_in (chronicle setting (e ∷ history)) b)) now.number) ∙ now.old)

        put_here : (has_moved now_past ≡ false) × (is_acting now_past ≡ false)
        put_here = stands_by true (has_moved now_past) (is_acting now_past) (sym (primary_is setting (e ∷ history) b now_past up_now there_now) ∙ now.primary)

        stood : epoch_now then_past ≡ n → has_moved then_past ≡ false → is_acting then_past ≡ false → Stays setting b n history
        stood number unmoved idle =
            record {
              number = number_then;
              old = ap (λ o. same_number o (era (chronicle setting history))) (epoch_is setting history b then_past before.up there_then)
                  ∙ eq-eqb (epoch_now then_past) (era (chronicle setting history)) (number ∙ sym number_then);
              primary = primary_is setting history b then_past before.up there_then ∙ put_so (has_moved then_past) (is_acting then_past) unmoved idle;
            }

        unchanged : now_past ≡ then_past → Stays setting b n history
        unchanged same =
            subst (λ p. epoch_now p ≡ n → has_moved p ≡ false → is_acting p ≡ false
            → Stays setting b n history) (sym same) stood epoch_here put_here.0 put_here.1

        called_by : (call : Call) → now_past ≡ after then_past call → Stays setting b n history
        called_by call is = by (taken_up (transition_of then_past call)) refl
          where
            too_far : (a u : ℕ) → a ≡ n → u ≡ a + 1 → u ≡ n → ⊥
            too_far a u one two three = omega (arith, one, two, three)

            by : (t : Option Duty) → taken_up (transition_of then_past call) ≡ t → Stays setting b n history
            by None none =
                let k : Kept then_past call = kept_by then_past call none in
                stood (sym k.epoch ∙ sym (ap epoch_now is) ∙ epoch_here) (k.unmoved (sym (ap has_moved is) ∙ put_here.0))
                (k.idle (sym (ap is_acting is) ∙ put_here.1))
            by (Some u) takes =
                let given : IsAhead setting (chronicle setting history) b then_past u =
                always_ahead setting history fair (clean_before setting e history clean) each b then_past before.up there_then u
                (takes_given then_past call u takes) in
                absurd (too_far (era (chronicle setting history)) u.epoch number_then given.number
                (sym (taken_epoch then_past call u takes) ∙ sym (ap epoch_now is) ∙ epoch_here))

      some_same : {p q : Past} → Some p ≡ Some q → p ≡ q
      some_same {p = p} same = ap (λ o. map_or o p (λ x. x)) same

      by_went : IsUnmade → (now_past : Past) → past_in (chronicle setting (e ∷ history)) b ≡ Some now_past → Went setting e history b
          → Stays setting b n history
      by_went before now_past there_now (made makes_) = absurd (not_both (makes b e) makes_ before.unmade_)
      by_went before now_past there_now (called past call acted there is) = called_by before now_past past there_now there call (some_same (sym there_now ∙ is))
      by_went before now_past there_now (alone same did) = unchanged before now_past now_past there_now (sym same ∙ there_now) refl

      own : IsThere (chronicle setting (e ∷ history)) b
      own = up_has_past setting (e ∷ history) b (era (chronicle setting (e ∷ history))) (old_is_up (chronicle setting (e ∷ history)) b now.old) now.old

      stayed : makes b e ≡ false → Stays setting b n history
      stayed none =
          by_went (record {
            unmade_ = none;
            up = up_case (makes b e) (fails (thing.Device b) e) (is_up (seen_of (chronicle setting history)) b)
                (old_is_up (chronicle setting (e ∷ history)) b now.old) none;
          })
          own.past own.there (went setting e history b)

    -- where the event makes the device, it is its start
    started_so : (f : Event) → f ≡ e → makes b f ≡ true → is_old (chronicle setting (f ∷ history)) b ≡ true → era (chronicle setting (f ∷ history)) ≡ n
        → BackThen setting b n history
    started_so (event.Start r m c clock eps) is makes_ old number = started m (eqb-true m b (plain (nat_eq m b) makes_)) r c clock eps is number
      where
        plain : (x : Bool) → (x || false) ≡ true → x ≡ true
        plain true h = refl
        plain false h = cc

        started : (d : ℕ) → d ≡ b → (r c clock eps : ℕ) → event.Start r d c clock eps ≡ e → era (chronicle setting (event.Start r d c clock eps ∷ history)) ≡ n
            → BackThen setting b n history
        started d here r c clock eps same number' =
            let at : IsNextEvent setting history (event.Start r d c clock eps) = subst (IsNextEvent setting history) (sym same) comes in
            let begins : is_beginning setting (chronicle setting (event.Start r d c clock eps ∷ history)) ≡ true =
            subst (λ steps. is_beginning setting steps ≡ true) (sym (now_is setting r d c clock eps history at))
            (starts_by setting r d c clock eps history at) in
            let eras : era (chronicle setting (event.Start r d c clock eps ∷ history)) ≡ era (chronicle setting history) =
            era_kept (next_step setting (chronicle setting history) (event.Start r d c clock eps)) (chronicle setting history)
            (start_closes_none setting history r d c clock eps at.clean) in
            starts
            (record {
              number = sym eras ∙ number';
              begins = begins_before setting (event.Start r d c clock eps) history at.clean eras begins;
              unmade_ = subst (λ x. was_made (seen_of (chronicle setting history)) x ≡ false) here (unmade setting r d c clock eps history at);
            })
    started_so (event.Join r m c clock eps) is makes_ old number =
        absurd (joined_not (era (chronicle setting (event.Join r m c clock eps ∷ history))) (positive_era number)
        (sym (ap (λ o. same_number o (era (chronicle setting (event.Join r m c clock eps ∷ history)))) blank) ∙ old))
      where
        here : m ≡ b
        here = eqb-true m b makes_

        positive_era : era (chronicle setting (event.Join r m c clock eps ∷ history)) ≡ n → 1 ≤ era (chronicle setting (event.Join r m c clock eps ∷ history))
        positive_era same = subst (λ k. 1 ≤ k) (sym same) positive

        joined_not : (k : ℕ) → 1 ≤ k → nat_eq 0 k ≡ true → ⊥
        joined_not k le same = let is' : 0 ≡ k = eqb-true 0 k same in omega (arith, le, is')

        blank : epoch_in (chronicle setting (event.Join r m c clock eps ∷ history)) b ≡ Some 0
        blank =
            epoch_is setting (event.Join r m c clock eps ∷ history) b (new_past (calls.Joined (rates_of setting.net m) c clock eps))
            (ap (λ x. map_or (if x then Some true else None) (is_up (seen_of (chronicle setting history)) b) (λ told. told)) (eq-eqb m b here))
            (ap (λ x. if x then Some (new_past (calls.Joined (rates_of setting.net m) c clock eps)) else past_in (chronicle setting history) b)
            (eq-eqb m b here))
    started_so _ is makes_ old number = cc

    back_stays : Stays setting b n (e ∷ history) → BackThen setting b n history
    back_stays now = by_closing (next_step setting (chronicle setting history) e).seen.closed refl
      where
        by_closing : (c : Bool) → (next_step setting (chronicle setting history) e).seen.closed ≡ c → BackThen setting b n history
        by_closing true closed = closed_back closed now.number
        by_closing false shut = by_made (makes b e) refl
          where
            by_made : (m : Bool) → makes b e ≡ m → BackThen setting b n history
            by_made true is = started_so e refl is now.old now.number
            by_made false none = stays (stayed shut now none)

    back_starts : IsYetToStart setting b n (e ∷ history) → BackThen setting b n history
    back_starts now = by_closing (next_step setting (chronicle setting history) e).seen.closed refl
      where
        unmade_then : (a c : Bool) → (a || c) ≡ false → c ≡ false
        unmade_then true c h = cc
        unmade_then false c h = h

        by_closing : (c : Bool) → (next_step setting (chronicle setting history) e).seen.closed ≡ c → BackThen setting b n history
        by_closing true closed = closed_back closed now.number
        by_closing false shut =
            let eras = era_kept (next_step setting (chronicle setting history) e) (chronicle setting history) shut in
            starts
            (record {
              number = sym eras ∙ now.number;
              begins = begins_before setting e history clean eras now.begins;
              unmade_ = unmade_then (makes b e) (was_made (seen_of (chronicle setting history)) b) now.unmade_;
            })

    back : BackThen setting b n (e ∷ history) → BackThen setting b n history
    back (stays now) = back_stays now
    back (starts now) = back_starts now
    back (ahead less) =
        ahead (lower (era (chronicle setting history)) (era (chronicle setting (e ∷ history)))
        (era_rises (next_step setting (chronicle setting history) e) (chronicle setting history)) less)
      where
        lower : (a c : ℕ) → a ≤ c → c < n → a < n
        lower a c le lt = omega (arith, le, lt)

  -- so at each event so far
  module _ (then_ : List Event) where
    back_to : (history : List Event) → Tail then_ history → IsSteady setting history → AtEach (Invariant setting) (chronicle setting history)
        → BackThen setting b n history → IsBack setting b n then_
    back_to history whole clean each now = record { clean = clean; each = each; there = now }
    back_to (e ∷ history) (behind t) clean each now =
        let rest : IsBack setting b n then_ = back_to history t (clean_before setting e history clean) each.0 (back e history clean each.0 now) in
        record { clean = rest.clean; each = rest.each; there = rest.there }

pub history_of : (setting : Setting) (then_ history : List Event) → Tail then_ history → IsAdmitted setting history → IsAdmitted setting then_
history_of setting then_ history whole is = is
history_of setting then_ (e ∷ history) (behind t) is = history_of setting then_ history t is.0

pub clean_of : (setting : Setting) (then_ history : List Event) → Tail then_ history → IsSteady setting history → IsSteady setting then_
clean_of setting then_ history whole clean = clean
clean_of setting then_ (e ∷ history) (behind t) clean = clean_of setting then_ history t (clean_before setting e history clean)

pub each_of : (setting : Setting) (then_ history : List Event) → Tail then_ history → AtEach (Invariant setting) (chronicle setting history)
    → AtEach (Invariant setting) (chronicle setting then_)
each_of setting then_ history whole each = each
each_of setting then_ (e ∷ history) (behind t) each = each_of setting then_ history t each.0

-- the core after these events, the first included
pub core_of : (setting : Setting) (history : List Event) → AtEach (Invariant setting) (chronicle setting history) → Core setting (chronicle setting history)
core_of setting [] each = core_empty setting
core_of setting (x ∷ history) each = each.1.core

-- who is of a plan to come, and not its root, has neither moved nor does it act: it is new
pub next_stood : (setting : Setting) (then_ : List Event) → AreGuarded setting → IsSteady setting then_ → Core setting (chronicle setting then_)
    → (y : ℕ) (past : Past) → is_up (seen_of (chronicle setting then_)) y ≡ true
    → past_in (chronicle setting then_) y ≡ Some past → (n : ℕ) → epoch_now past ≡ n → era (chronicle setting then_) < n
    → is_root (plan_numbered setting n) y ≡ false → (has_moved past ≡ false) × (is_acting past ≡ false)
next_stood setting then_ fair clean core y past up there n own less low = by (has_commit (seen_of (chronicle setting then_))) refl
  where
    bound : epoch_now past ≤ reach (chronicle setting then_)
    bound = (within setting then_ clean.is).epochs y past there

    short : (a m k : ℕ) → a < m → k ≡ m → k ≤ a → ⊥
    short a m k lt same le = omega (arith, lt, same, le)

    next : (a m k : ℕ) → a < m → k ≡ m → k ≤ a + 1 → k ≡ a + 1
    next a m k lt same le = omega (arith, lt, same, le)

    by : (c : Bool) → has_commit (seen_of (chronicle setting then_)) ≡ c → (has_moved past ≡ false) × (is_acting past ≡ false)
    by false none =
        absurd (short (era (chronicle setting then_)) n (epoch_now past) less own
        (subst (λ c. epoch_now past ≤ (if c then era (chronicle setting then_) + 1 else era (chronicle setting then_))) none bound))
    by true commit =
        let number : epoch_now past ≡ era (chronicle setting then_) + 1 =
        next (era (chronicle setting then_)) n (epoch_now past) less own
        (subst (λ c. epoch_now past ≤ (if c then era (chronicle setting then_) + 1 else era (chronicle setting then_))) commit bound) in
        let new : is_new (chronicle setting then_) y ≡ true =
        ap (λ o. same_number o (era (chronicle setting then_) + 1)) (epoch_is setting then_ y past up there)
        ∙ eq-eqb (epoch_now past) (era (chronicle setting then_) + 1) number in
        let opened = commit_is_open (seen_of (chronicle setting then_)) commit in
        let root : staged_root setting (chronicle setting then_) ≡ (plan_numbered setting n).root =
        ap (λ o. map_or o 0 (λ (p : Plan). p.root)) (staged_some setting (chronicle setting then_) opened)
        ∙ ap (λ k. (plan_numbered setting k).root) (sym number ∙ own) in
        let apart : nat_eq y (staged_root setting (chronicle setting then_)) ≡ false = ap (nat_eq y) root ∙ unequal_swap (plan_numbered setting n).root y low in
        let linked =
        implied (is_new (chronicle setting then_) y && not (nat_eq y (staged_root setting (chronicle setting then_)))) _ (core.committed.linked y)
        (and_from (is_new (chronicle setting then_) y) (not (nat_eq y (staged_root setting (chronicle setting then_)))) new (ap not apart)) in
        let primary =
        (and_parts (on_primary (chronicle setting then_) y) _
        (and_parts (on_primary (chronicle setting then_) y && map_or (parent_in (chronicle setting then_) y) false (is_new (chronicle setting then_))) _
        linked).0).0 in
        stands_by true (has_moved past) (is_acting past) (sym (primary_is setting then_ y past up there) ∙ primary)

module _ (setting : Setting) (history : List Event) (fair : AreGuarded setting) (clean : IsSteady setting history)
    (each : AtEach (Invariant setting) (chronicle setting history))
    (stays_ : backup_root_stays setting (chronicle setting history) ≡ true) (y : ℕ)
    (on_ : (nat_eq y (plan_now setting (chronicle setting history)).backup_root || has (above_backup_root setting (chronicle setting history)) y) ≡ true)
    (low : is_root (plan_now setting (chronicle setting history)) y ≡ false) where
  abbrev steps : List Step
  steps = chronicle setting history

  abbrev b : ℕ
  b = (plan_now setting (chronicle setting history)).backup_root

  positive : 1 ≤ era (chronicle setting history)
  positive = least (count_by (λ x. x.closed) (seen_of (chronicle setting history)))
    where
      least : (m : ℕ) → 1 ≤ m + 1
      least m = omega arith

  now : BackThen setting b (era (chronicle setting history)) history
  now =
      let parts = and_parts (is_old steps b) (on_primary steps b) stays_ in
      stays (record { number = refl; old = parts.0; primary = parts.1 })

  module _ (then_ : List Event) (tail : Tail then_ history) (past : Past) (up : is_up (seen_of (chronicle setting then_)) y ≡ true)
      (there : past_in (chronicle setting then_) y ≡ Some past)
      (own : epoch_now past ≡ era (chronicle setting history)) where
    at : IsBack setting b (era (chronicle setting history)) then_
    at = back_to setting fair b (era steps) positive then_ history tail clean each now

    core : Core setting (chronicle setting then_)
    core = core_of setting then_ at.each

    plan_is : era (chronicle setting then_) ≡ era (chronicle setting history)
        → plan_now setting (chronicle setting history) ≡ plan_now setting (chronicle setting then_)
    plan_is same = ap (plan_numbered setting) (sym same)

    -- it stood as it stands
    with_backup : Stays setting b (era (chronicle setting history)) then_ → (has_moved past ≡ false) × (is_acting past ≡ false)
    with_backup s =
        let same : plan_now setting steps ≡ plan_now setting (chronicle setting then_) = plan_is s.number in
        let stayed : backup_root_stays setting (chronicle setting then_) ≡ true =
        subst (λ (p : Plan). (is_old (chronicle setting then_) p.backup_root && on_primary (chronicle setting then_) p.backup_root) ≡ true) same
        (and_from (is_old (chronicle setting then_) b) (on_primary (chronicle setting then_) b) s.old s.primary) in
        stands_now setting then_ core stayed y
        (subst (λ (p : Plan). (nat_eq y p.backup_root || has (map (λ hop. hop.parent) (walk setting.net p p.backup_root)) y) ≡ true) same on_)
        (subst (λ p. is_root p y ≡ false) same low) up past there (own ∙ sym s.number)

    false_of : (a c : Bool) → (not a || not c) ≡ true → a ≡ true → c ≡ false
    false_of true true h is = cc
    false_of true false h is = refl
    false_of false c h is = cc

    made_if_up : (seen : List Seen) → is_up seen y ≡ true → was_made seen y ≡ true
    made_if_up [] is = cc
    made_if_up (s ∷ seen) is = go (makes y s.event) (fails (thing.Device y) s.event) (made_if_up seen) is
      where
        go : (m f : Bool) → (is_up seen y ≡ true → was_made seen y ≡ true)
            → map_or (if m then Some true else if f then Some false else None) (is_up seen y) (λ told. told) ≡ true → (m || was_made seen y) ≡ true
        go true f rest is' = refl
        go false true rest is' = cc
        go false false rest is' = rest is'

    -- nobody had moved, and none but the root acted
    with_start : IsYetToStart setting b (era (chronicle setting history)) then_ → (has_moved past ≡ false) × (is_acting past ≡ false)
    with_start s =
        let same : plan_now setting steps ≡ plan_now setting (chronicle setting then_) = plan_is s.number in
        let plan = plan_now setting (chronicle setting then_) in
        let old : is_old (chronicle setting then_) y ≡ true =
        ap (λ o. same_number o (era (chronicle setting then_))) (epoch_is setting then_ y past up there)
        ∙ eq-eqb (epoch_now past) (era (chronicle setting then_)) (own ∙ sym s.number) in
        let member : is_member plan y ≡ true = old_is_member setting (chronicle setting then_) y (core.census.outsiders y) old in
        let other : nat_eq b y ≡ false =
        false_from_ne_true (nat_eq b y)
        (λ is. not_both (was_made (seen_of (chronicle setting then_)) y) (made_if_up (seen_of (chronicle setting then_)) up)
        (subst (λ x. was_made (seen_of (chronicle setting then_)) x ≡ false) (eqb-true b y is) s.unmade_)) in
        let ordinary : is_ordinary plan y ≡ true =
        and_from (is_member plan y && not (is_root plan y)) (not (is_backup_root plan y))
        (and_from (is_member plan y) (not (is_root plan y)) member (ap not (subst (λ p. is_root p y ≡ false) same low)))
        (ap not (subst (λ (p : Plan). nat_eq p.backup_root y ≡ false) same other)) in (
          sym (moved_is setting then_ y past up there)
              ∙ false_of (is_beginning setting (chronicle setting then_)) (moved (chronicle setting then_) y) (still setting then_ fair at.clean y) s.begins,
          sym (acts_is setting then_ y past up there)
              ∙ false_of (is_old (chronicle setting then_) y && is_ordinary plan y) (acts_in (chronicle setting then_) y) (core.roles.ordinary y)
              (and_from (is_old (chronicle setting then_) y) (is_ordinary plan y) old ordinary),
        )

    stood_so : (has_moved past ≡ false) × (is_acting past ≡ false)
    stood_so = by at.there
      where
        by : BackThen setting b (era (chronicle setting history)) then_ → (has_moved past ≡ false) × (is_acting past ≡ false)
        by (stays s) = with_backup s
        by (starts s) = with_start s
        by (ahead less) = next_stood setting then_ fair at.clean core y past up there (era steps) own less low

pub stood_then : (setting : Setting) → StoodThen setting
stood_then setting history fair clean each stays_ y on_ low older tail past there own =
    let of : IsOf setting history older = events_of_tail setting history older tail in
    let then_ : past_in (chronicle setting of.events) y ≡ Some past = subst (λ steps. past_in steps y ≡ Some past) of.is there in
    let was : WasAlive setting of.events y past = was_alive setting of.events (history_of setting of.events history of.tail clean.is) y past then_ in
    stood_so setting history fair clean each stays_ y on_ low was.then_ (tail_trans was.tail of.tail) past was.up was.there own

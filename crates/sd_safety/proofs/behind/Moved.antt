-- The backup root moves no later than its first wait and a tick after it heard, so far as it was sealed soon; and so 16 follows where it hears nothing long
-- after the root failed. By induction on the history: a closing puts it on its primary, and else it moved before, or moves with the event.
use Rattle.std.specs.Prelude.{◌≡◌, ℕ, ◌+◌, ◌≤◌, Bool, true, false, ◌&&◌, not, List, [], ◌∷◌, nat_eq, nat_lt, length, Option, Some, None, option_map, is_some, refl, if◌then◌else◌}
use Rattle.std.proofs.Common.{arith, ◌∙◌, ap, sym, subst}
use Rattle.std.proofs.lemmas.Bool.{and_from, eqb-true, eq-eqb, lt-ltb, both_ways, false_from_ne_true}
use Rattle.sd_num.specs.Lists.{map_or, same_number}
use Rattle.sd_plan.specs.topo.Network.{Network}
use Rattle.sd_plan.specs.declared.topo.Thing.TheVariants as thing
use Rattle.sd_plan.specs.declared.Plan.{Plan}
use Rattle.sd_plan.specs.Plans.{is_member, is_root}
use Rattle.sd_device.specs.Calls.{Call, Transition, Entered, Committed, Recommitted, Moved, Past}
use Rattle.sd_device.specs.Words.{after, transition_of, duty_now, has_moved, is_acting, taken_up, is_move as is_move_transition, counter_of}
use Rattle.sd_device.proofs.Reached.{added}
use Rattle.sd_sched.specs.declared.Event.{Event}
use Rattle.sd_sched.specs.Events.{reference_of}
use Rattle.sd_history.specs.World.{Setting, makes, fails, is_up, plan_numbered}
use Rattle.sd_history.specs.Steps.{Act, Makes, Calls, Asks, Passes, Step, seen_of, acts_in, epoch_in, act_by, has_settled}
use Rattle.sd_history.specs.Chronicle.{past_in, past_after, new_past, chronicle, next_step}
use Rattle.sd_history.proofs.Given.{some_is}
use Rattle.sd_history.proofs.Shared.{epoch_kept}
use Rattle.sd_safety.specs.invariant.Bounds.{tick_gap, first_up, second_up}
use Rattle.sd_safety.specs.invariant.Eras.{era, plan_now, is_old, moved, on_primary, on_backup, live_past, heard_at, moved_at, silent_for, rests_for, belongs}
use Rattle.sd_safety.specs.invariant.Invariant.{Invariant, AtEach}
use Rattle.sd_safety.specs.invariant.Guarded.{AreGuarded, IsSteady}
use Rattle.sd_safety.specs.invariant.Coming.{IsNextEvent, AtNext}
use Rattle.sd_safety.proofs.invariant.Prefix.{clean_before}
use Rattle.sd_safety.proofs.invariant.Sides.{implied, not_both}
use Rattle.sd_safety.specs.timers.Times.{AreTimed, did_by, makes_device, reference_after, moves, moved_in}
use Rattle.sd_safety.specs.messages.Moments.{whole, behind}
use Rattle.sd_safety.proofs.timers.Pasts.{itself, onward, inside_duty, move_from_primary, is_reached}
use Rattle.sd_safety.proofs.timers.Turns.{IsMove, is_move, backup_by_move}
use Rattle.sd_safety.proofs.timers.Histories.{timely, timed}
use Rattle.sd_safety.proofs.timers.Periods.{reference_within}
use Rattle.sd_safety.proofs.waits.SameReferences.{moved_is}
use Rattle.sd_safety.proofs.waits.Waits.{Stands, old_stands, backup_root_silence, backup_root_rest}
use Rattle.sd_safety.proofs.waits.LookingBack.{Live, stands_by, all_three}
use Rattle.sd_safety.specs.behind.Pieces.{SealsSoon}
use Rattle.sd_safety.proofs.invariant.Facts.{IsSound, sound_now}
use Rattle.sd_safety.proofs.behind.BeforeFailure.{heard_rises}
use Rattle.sd_safety.proofs.moves.Ahead.{up_since}

-- One step of a device that has moved after it: it had moved before and did not move now, or it stood on its primary and moves

pub data Course (steps : List Step) (act : Act) (b : ℕ) (past : Past) : Type 0 where
  stayed : (old : Past) → past_in steps b ≡ Some old → has_moved old ≡ true → duty_now past ≡ duty_now old
      → ((r before : ℕ) → reference_after moves r act b (past_in steps b) before ≡ before) → Course steps act b past
  went : (old : Past) → past_in steps b ≡ Some old → has_moved old ≡ false → is_acting old ≡ false → duty_now past ≡ duty_now old
      → ((r before : ℕ) → reference_after moves r act b (past_in steps b) before ≡ r) → Course steps act b past

takes_none : (past : Past) (call : Call) (transition : Transition) → has_moved (added past call transition) ≡ true → taken_up transition ≡ None
takes_none past call (Entered duty edge) moved_ = cc
takes_none past call (Committed duty) moved_ = cc
takes_none past call (Recommitted duty) moved_ = cc
takes_none past call _ moved_ = refl

is_moved_transition : (transition : Transition) → is_move_transition transition ≡ true → transition ≡ Moved
is_moved_transition Moved is = refl
is_moved_transition _ is = cc

by_call : (steps : List Step) (call : Call) (b : ℕ) (old : Past) → past_in steps b ≡ Some old → (m : Bool) → has_moved old ≡ m
    → has_moved (after old call) ≡ true → (id : nat_eq b b ≡ true) → Course steps (Calls b call) b (after old call)
by_call steps call b old there true was put id =
    let none : taken_up (transition_of old call) ≡ None = takes_none old call (transition_of old call) put in
    let unmarked : is_move_transition (transition_of old call) ≡ false =
    false_from_ne_true (is_move_transition (transition_of old call))
    (λ is.
    let m : IsMove old call = is_move old call (is_moved_transition (transition_of old call) is) in
    both_ways (has_moved old) (move_from_primary old m.counter (is_reached steps b old there) m.moves).unmoved was) in
    stayed old there was (inside_duty old (after old call) (onward call none itself))
    (λ r before.
    ap (λ c. if c then map_or (past_in steps b) before (λ y. map_or (moves (did_by y call)) before (λ k. r)) else before) id
    ∙ ap (λ p. map_or p before (λ y. map_or (moves (did_by y call)) before (λ k. r))) there
    ∙ ap (λ c. map_or (if c then counter_of call else None) before (λ k. r)) unmarked)
by_call steps call b old there false was put id =
    let transition_is : transition_of old call ≡ Moved = backup_by_move old call was put in
    let m : IsMove old call = is_move old call transition_is in
    went old there was (move_from_primary old m.counter (is_reached steps b old there) m.moves).acts_not
    (inside_duty old (after old call) (onward call (ap taken_up transition_is) itself))
    (λ r before.
    ap (λ c. if c then map_or (past_in steps b) before (λ y. map_or (moves (did_by y call)) before (λ k. r)) else before) id
    ∙ ap (λ p. map_or p before (λ y. map_or (moves (did_by y call)) before (λ k. r))) there
    ∙ ap (λ transition. map_or (if is_move_transition transition then counter_of call else None) before (λ k. r)) transition_is
    ∙ ap (λ c. map_or (counter_of c) before (λ k. r)) m.tick)

pub course : (steps : List Step) (act : Act) (b : ℕ) (past : Past) → past_after act b (past_in steps b) ≡ Some past → has_moved past ≡ true
    → Course steps act b past
course steps (Makes m making) b past is put = go (nat_eq m b) refl is
  where
    go : (c : Bool) → nat_eq m b ≡ c → (if c then Some (new_past making) else past_in steps b) ≡ Some past → Course steps (Makes m making) b past
    go true id same = absurd (both_ways (has_moved past) (ap has_moved (sym (some_is same))) put)
    go false id same = stayed past same put refl (λ r before. ap (λ c. if c then r else before) id)
course steps (Calls m call) b past is put = go (nat_eq m b) refl is
  where
    here : (q : Option Past) → past_in steps b ≡ q → m ≡ b → option_map (λ old. after old call) q ≡ Some past → Course steps (Calls m call) b past
    here None there id same = cc
    here (Some old) there id same =
        subst (λ past. Course steps (Calls m call) b past) (some_is same)
        (subst (λ z. Course steps (Calls z call) b (after old call)) (sym id)
        (by_call steps call b old there (has_moved old) refl (ap has_moved (some_is same) ∙ put) (eq-eqb b b refl)))

    go : (c : Bool) → nat_eq m b ≡ c → (if c then option_map (λ old. after old call) (past_in steps b) else past_in steps b) ≡ Some past
        → Course steps (Calls m call) b past
    go true id same = here (past_in steps b) refl (eqb-true m b id) same
    go false id same =
        stayed past same put refl
        (λ r before. ap (λ c. if c then map_or (past_in steps b) before (λ y. map_or (moves (did_by y call)) before (λ k. r)) else before) id)
course steps (Asks m counter) b past is put = stayed past is put refl (λ r before. refl)
course steps Passes b past is put = stayed past is put refl (λ r before. refl)

-- who is up, and was not made with the event, was up
pub made_not : (steps : List Step) (act : Act) (b : ℕ) (past : Past) → past_after act b (past_in steps b) ≡ Some past → has_moved past ≡ true
    → makes_device act b ≡ false
made_not steps (Makes m making) b past is put = go (nat_eq m b) is
  where
    go : (c : Bool) → (if c then Some (new_past making) else past_in steps b) ≡ Some past → c ≡ false
    go true same = absurd (both_ways (has_moved past) (ap has_moved (sym (some_is same))) put)
    go false same = refl
made_not steps _ b past is put = refl

-- right after a closing the backup root is on its primary
pub begins : (settled root acts primary short : Bool) → (settled && (if root then acts else primary && short)) ≡ true → root ≡ false → primary ≡ true
begins true false acts true short c r = refl
begins true false acts false short c r = cc
begins true true acts primary short c r = cc
begins false root acts primary short c r = cc

pub unmoved : (live moved_ acts : Bool) → (live && not moved_ && not acts) ≡ true → moved_ ≡ false
unmoved true false acts p = refl
unmoved true true acts p = cc
unmoved false moved_ acts p = cc

pub not_root : (net : Network) (plan : Plan) → IsSound net plan → is_root plan plan.backup_root ≡ false
not_root net plan facts =
    false_from_ne_true (is_root plan plan.backup_root)
    (λ is. not_both (nat_eq plan.backup_root plan.root) (eq-eqb plan.backup_root plan.root (sym (eqb-true plan.root plan.backup_root is))) facts.apart)

-- the deadlines of the backup root
module _ (setting : Setting) (h : List Event) (e : Event) (comes : IsNextEvent setting h e) where
  pub silence_now : SealsSoon setting (chronicle setting h) (reference_of e)
      → is_old (chronicle setting h) (plan_now setting (chronicle setting h)).backup_root ≡ true
      → on_primary (chronicle setting h) (plan_now setting (chronicle setting h)).backup_root ≡ true
      → silent_for (chronicle setting h) (plan_now setting (chronicle setting h)).backup_root (reference_of e) ≤ first_up setting.net
      (plan_now setting (chronicle setting h)) + tick_gap setting.net
  silence_now seals old primary =
      let plan : Plan = plan_now setting (chronicle setting h) in
      let facts : IsSound setting.net plan = sound_now setting h comes.fair comes.clean.is.0 in
      let seal = seals old primary in
      backup_root_silence setting e h plan.backup_root (timely setting (e ∷ h) comes.fair.network comes.clean.is comes.clean.premises) old facts.backup_member
      seal.0 (not_root setting.net plan facts)
      (eq-eqb plan.backup_root plan.backup_root refl) primary seal.1 seal.2

  pub rest_now : is_old (chronicle setting h) (plan_now setting (chronicle setting h)).backup_root ≡ true
      → on_backup (chronicle setting h) (plan_now setting (chronicle setting h)).backup_root ≡ true
      → rests_for (chronicle setting h) (plan_now setting (chronicle setting h)).backup_root (reference_of e) ≤ second_up setting.net
      (plan_now setting (chronicle setting h)) + tick_gap setting.net
  rest_now old on =
      let plan : Plan = plan_now setting (chronicle setting h) in
      let facts : IsSound setting.net plan = sound_now setting h comes.fair comes.clean.is.0 in
      backup_root_rest setting e h plan.backup_root (timely setting (e ∷ h) comes.fair.network comes.clean.is comes.clean.premises) old facts.backup_member
      (not_root setting.net plan facts)
      (eq-eqb plan.backup_root plan.backup_root refl) on

-- how a live device stands, by the past that it is known to have
pub record StandsBy (steps : List Step) (d : ℕ) (past : Past) : Type 0 where
  pub moved_is : moved steps d ≡ has_moved past
  pub acts_is : acts_in steps d ≡ is_acting past
  pub epoch_is : epoch_in steps d ≡ Some (map_or (duty_now past) 0 (λ v. v.epoch))

pub stands_so : (setting : Setting) (history : List Event) (d : ℕ) (past : Past) → is_up (seen_of (chronicle setting history)) d ≡ true
    → past_in (chronicle setting history) d ≡ Some past → StandsBy (chronicle setting history) d past
stands_so setting history d past up there =
    let l : Live (chronicle setting history) d = stands_by setting (chronicle setting history) d (record { history = history; is = refl }) past up there in
    let same : l.past ≡ past = some_is (sym l.there ∙ there) in
    record {
      moved_is = l.moved_is ∙ ap has_moved same;
      acts_is = l.acts_is ∙ ap is_acting same;
      epoch_is = l.epoch_is ∙ ap (λ q. Some (map_or (duty_now q) 0 (λ v. v.epoch))) same;
    }

module _ (setting : Setting) (fair : AreGuarded setting) (seals : AtNext SealsSoon setting) where
  abbrev Says : List Event → Type 0
  Says history =
      let steps : List Step = chronicle setting history in
      let b : ℕ = (plan_now setting steps).backup_root in
      is_old steps b ≡ true → moved steps b ≡ true → moved_at steps b ≤ heard_at steps b + first_up setting.net (plan_now setting steps) + tick_gap setting.net

  module _ (e : Event) (h : List Event) (clean : IsSteady setting (e ∷ h)) (each : AtEach (Invariant setting) (chronicle setting (e ∷ h)))
      (earlier : Says h) where
    s : Step
    s = next_step setting (chronicle setting h) e

    plan : Plan
    plan = plan_now setting (chronicle setting (e ∷ h))

    b : ℕ
    b = (plan_now setting (chronicle setting (e ∷ h))).backup_root

    facts : IsSound setting.net (plan_now setting (chronicle setting (e ∷ h)))
    facts = sound_now setting (e ∷ h) fair clean.is

    all_timed : AreTimed setting (chronicle setting (e ∷ h))
    all_timed = timed setting (e ∷ h) (timely setting (e ∷ h) fair.network clean.is clean.premises)

    at_closing : s.seen.closed ≡ true → moved (chronicle setting (e ∷ h)) b ≡ true → ⊥
    unfolding s b facts
    at_closing closed put =
        let steps : List Step = chronicle setting (e ∷ h) in
        let begun = each.1.core.closed.members b in
        let primary = begins (has_settled steps (era steps) b) (is_root (plan_now setting steps) b) (acts_in steps b) (on_primary steps b) _
        (implied (s.seen.closed && belongs setting.net (plan_now setting steps) b) _ begun
        (and_from s.seen.closed (belongs setting.net (plan_now setting steps) b) closed
        (and_from (nat_lt b (length setting.net.devices)) (is_member (plan_now setting steps) b)
        (lt-ltb b (length setting.net.devices) facts.fits.backup_root) facts.backup_member))) (not_root setting.net (plan_now setting steps) facts) in
        both_ways (moved steps b) (unmoved (is_some (live_past steps b)) (moved steps b) (acts_in steps b) primary) put

    era_kept : s.seen.closed ≡ false → era (chronicle setting (e ∷ h)) ≡ era (chronicle setting h)
    unfolding s
    era_kept open_ = epoch_kept s.seen (seen_of (chronicle setting h)) open_

    abbrev Moves : Plan → Type 0
    Moves pl = is_old (chronicle setting h) pl.backup_root ≡ true → moved (chronicle setting h) pl.backup_root ≡ true
        → moved_at (chronicle setting h) pl.backup_root ≤ heard_at (chronicle setting h) pl.backup_root + first_up setting.net pl + tick_gap setting.net

    abbrev Silent : Plan → Type 0
    Silent pl = is_old (chronicle setting h) pl.backup_root ≡ true → on_primary (chronicle setting h) pl.backup_root ≡ true
        → silent_for (chronicle setting h) pl.backup_root (reference_of e) ≤ first_up setting.net pl + tick_gap setting.net

    by_course : s.seen.closed ≡ false → (past : Past) → is_up (seen_of (chronicle setting h)) b ≡ true → is_old (chronicle setting (e ∷ h)) b ≡ true
        → is_up (seen_of (chronicle setting (e ∷ h))) b ≡ true → past_in (chronicle setting (e ∷ h)) b ≡ Some past
        → Course (chronicle setting h) (act_by setting (chronicle setting h) e) b past
        → moved_at (chronicle setting (e ∷ h)) b ≤ heard_at (chronicle setting (e ∷ h)) b + first_up setting.net
        (plan_now setting (chronicle setting (e ∷ h))) + tick_gap setting.net
    unfolding s b all_timed era_kept
    by_course open_ past up old up' there' (stayed was there put duty kept) =
        let steps : List Step = chronicle setting h in
        let now : StandsBy steps b was = stands_so setting h b was up there in
        let next : StandsBy (chronicle setting (e ∷ h)) b past = stands_so setting (e ∷ h) b past up' there' in
        let old_ : is_old steps b ≡ true =
        ap (λ o. same_number o (era steps)) (now.epoch_is ∙ ap (λ u. Some (map_or u 0 (λ v. v.epoch))) (sym duty) ∙ sym next.epoch_is)
        ∙ ap (same_number (epoch_in (chronicle setting (e ∷ h)) b)) (sym (era_kept open_)) ∙ old in
        let rest : Moves (plan_now setting (chronicle setting (e ∷ h))) = subst (λ n. Moves (plan_numbered setting n)) (sym (era_kept open_)) earlier in
        let same : moved_at (chronicle setting (e ∷ h)) b ≡ moved_at steps b =
        moved_is setting (chronicle setting (e ∷ h)) all_timed b ∙ kept (reference_of e) (moved_in steps b) ∙ sym (moved_is setting steps all_timed.0 b) in
        let rises = heard_rises setting h (e ∷ h) b (behind whole) all_timed.0 all_timed in
        let le = rest old_ (now.moved_is ∙ put) in
        omega (arith, same, rises, le)
    by_course open_ past up old up' there' (went was there put still duty now_) =
        let steps : List Step = chronicle setting h in
        let now : StandsBy steps b was = stands_so setting h b was up there in
        let next : StandsBy (chronicle setting (e ∷ h)) b past = stands_so setting (e ∷ h) b past up' there' in
        let old_ : is_old steps b ≡ true =
        ap (λ o. same_number o (era steps)) (now.epoch_is ∙ ap (λ u. Some (map_or u 0 (λ v. v.epoch))) (sym duty) ∙ sym next.epoch_is)
        ∙ ap (same_number (epoch_in (chronicle setting (e ∷ h)) b)) (sym (era_kept open_)) ∙ old in
        let primary : on_primary steps b ≡ true =
        all_three (is_some (live_past steps b)) (moved steps b) (acts_in steps b) (ap (λ c. is_some (if c then past_in steps b else None)) up ∙ ap is_some there)
        (now.moved_is ∙ put) (now.acts_is ∙ still) in
        let comes : IsNextEvent setting h e = record { fair = fair; clean = clean; before = each.0 } in
        let short : Silent (plan_now setting (chronicle setting (e ∷ h))) =
        subst (λ n. Silent (plan_numbered setting n)) (sym (era_kept open_)) (silence_now setting h e comes (seals h e comes)) in
        let le = short old_ primary in
        let rises = heard_rises setting h (e ∷ h) b (behind whole) all_timed.0 all_timed in
        let same = moved_is setting (chronicle setting (e ∷ h)) all_timed b in
        let within : moved_in (chronicle setting (e ∷ h)) b ≤ reference_of e = reference_within moves setting (chronicle setting (e ∷ h)) all_timed b in
        omega (arith, le, rises, same, within)

    in_era : s.seen.closed ≡ false → is_old (chronicle setting (e ∷ h)) b ≡ true → moved (chronicle setting (e ∷ h)) b ≡ true
        → moved_at (chronicle setting (e ∷ h)) b ≤ heard_at (chronicle setting (e ∷ h)) b + first_up setting.net
        (plan_now setting (chronicle setting (e ∷ h))) + tick_gap setting.net
    unfolding s b all_timed
    in_era open_ old put =
        let st : Stands setting (chronicle setting (e ∷ h)) b = old_stands setting (e ∷ h) b old in
        let put_ : has_moved st.past ≡ true = sym st.moved_is ∙ put in
        let up : is_up (seen_of (chronicle setting h)) b ≡ true =
        up_since (makes b e) (fails (thing.Device b) e) (is_up (seen_of (chronicle setting h)) b)
        (all_timed.1.fits.makes_it b ∙ made_not (chronicle setting h) (act_by setting (chronicle setting h) e) b st.past st.there put_) st.live in
        by_course open_ st.past up old st.live st.there (course (chronicle setting h) (act_by setting (chronicle setting h) e) b st.past st.there put_)

    next_too : Says (e ∷ h)
    unfolding s b
    next_too old put = by_closed (s.seen.closed) refl
      where
        by_closed : (c : Bool) → (next_step setting (chronicle setting h) e).seen.closed ≡ c
            → moved_at (chronicle setting (e ∷ h)) (plan_now setting (chronicle setting (e ∷ h))).backup_root
            ≤ heard_at (chronicle setting (e ∷ h)) (plan_now setting (chronicle setting (e ∷ h))).backup_root + first_up setting.net
            (plan_now setting (chronicle setting (e ∷ h))) + tick_gap setting.net
        by_closed true closed = absurd (at_closing closed put)
        by_closed false open_ = in_era open_ old put

  pub moved_soon : (history : List Event) → IsSteady setting history → AtEach (Invariant setting) (chronicle setting history) → Says history
  moved_soon [] clean each old put = cc
  moved_soon (e ∷ h) clean each old put = next_too e h clean each (moved_soon h (clean_before setting e h clean) each.0) old put

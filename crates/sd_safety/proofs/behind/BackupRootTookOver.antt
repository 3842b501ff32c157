-- An old backup root that acts has moved and took over soon: at the takeover by its deadline on the backup and by what it can have heard, and from there on
-- nothing changes. By induction on the history.
use Rattle.std.specs.Prelude.{◌≡◌, ℕ, ◌+◌, ◌*◌, ◌≤◌, Bool, true, false, ◌&&◌, ◌||◌, List, [], ◌∷◌, max, nat_eq, nat_lt, length, Option, Some, None, is_some, option_map, refl, if◌then◌else◌}
use Rattle.std.proofs.Common.{arith, ◌∙◌, ap, sym, subst}
use Rattle.std.proofs.lemmas.Bool.{and_from, or_from, eqb-true, eq-eqb, lt-ltb, both_ways, false_from_ne_true}
use Rattle.sd_num.specs.Lists.{map_or, same_number}
use Rattle.sd_plan.specs.topo.Network.{Network}
use Rattle.sd_plan.specs.declared.topo.Thing.{Thing}
use Rattle.sd_plan.specs.declared.topo.Thing.TheVariants as thing
use Rattle.sd_plan.specs.declared.Plan.{Plan}
use Rattle.sd_plan.specs.declared.Duty.{Duty}
use Rattle.sd_plan.specs.declared.Role.TheVariants as role
use Rattle.sd_plan.specs.Plans.{is_member, is_root, is_backup_root}
use Rattle.sd_plan.specs.Duties.{duty_of}
use Rattle.sd_device.specs.Calls.{Making, Started, Joined, Call, Transition, Entered, Committed, Recommitted, Accepted, Moved, TookOver, Emitted, Nothing, Past, CallDone}
use Rattle.sd_device.specs.Words.{after, transition_of, duty_now, given_now, taken_up, has_moved, is_acting, is_takeover as is_takeover_transition}
use Rattle.sd_sched.specs.declared.Event.{Event}
use Rattle.sd_sched.specs.Events.{reference_of}
use Rattle.sd_history.specs.World.{Setting, Seen, makes, fails, is_up, latest_reference, plan_numbered}
use Rattle.sd_history.specs.Steps.{Act, Makes, Calls, Asks, Passes, Step, seen_of, act_by, acts_in, epoch_in, has_settled}
use Rattle.sd_history.specs.Chronicle.{past_in, past_after, new_past, chronicle, next_step}
use Rattle.sd_history.proofs.Among.{first}
use Rattle.sd_history.proofs.Given.{some_is, takes_given}
use Rattle.sd_history.proofs.Shared.{epoch_kept}
use Rattle.sd_safety.specs.invariant.Bounds.{depth, delay, tick_gap, second_up}
use Rattle.sd_safety.specs.invariant.Eras.{era, plan_now, failed_now, is_old, moved, on_primary, on_backup, live_past, first_failure, all_started, late, root_failed, moved_at, latest_such, does, did_by, device_failed_now, touches, is_among, belongs}
use Rattle.sd_safety.specs.invariant.Clauses.{backup_root_acts}
use Rattle.sd_safety.specs.invariant.Invariant.{Invariant, AtEach}
use Rattle.sd_safety.specs.invariant.Guarded.{AreGuarded, IsSteady}
use Rattle.sd_safety.specs.invariant.Coming.{IsNextEvent, AtNext}
use Rattle.sd_safety.proofs.invariant.Prefix.{clean_before}
use Rattle.sd_safety.proofs.invariant.Sides.{implied, not_both}
use Rattle.sd_safety.specs.timers.Times.{AreTimed, makes_device}
use Rattle.sd_safety.specs.messages.Moments.{whole, behind}
use Rattle.sd_safety.proofs.timers.Pasts.{Inside, itself, onward, inside_duty, inside_moved, takeover_from_backup}
use Rattle.sd_safety.proofs.timers.Turns.{IsTakeover, is_takeover, BeganToAct, by_takeover, by_commit, began_to_act}
use Rattle.sd_safety.proofs.timers.Histories.{timely, timed}
use Rattle.sd_safety.proofs.waits.Waits.{Stands, old_stands}
use Rattle.sd_safety.specs.behind.Pieces.{HearsNoMore}
use Rattle.sd_safety.specs.behind.Feeding.{TookOverSoon, takes_over, took_over_at}
use Rattle.sd_safety.proofs.behind.EraSums.{late_since}
use Rattle.sd_safety.proofs.behind.Failing.{some_failed}
use Rattle.sd_safety.proofs.invariant.Facts.{IsSound, sound_now}
use Rattle.sd_safety.proofs.behind.Moved.{StandsBy, stands_so, begins, not_root, rest_now}
use Rattle.sd_safety.proofs.behind.Breaks.{moved_rises}
use Rattle.sd_safety.proofs.behind.Broken.{first_at, first_hits, first_is_now, late_stays}
use Rattle.sd_safety.proofs.behind.Waiting.{waiting}
use Rattle.sd_safety.proofs.entering.Hears.{idle_by}
use Rattle.sd_safety.proofs.moves.Ahead.{up_since}
use Rattle.sd_safety.proofs.waits.LookingBack.{both_two}

-- References

such_when : (test : CallDone → Bool) (s : Step) (steps : List Step) (d : ℕ) → latest_such test steps d ≤ reference_of s.seen.event
    → latest_such test (s ∷ steps) d ≤ reference_of s.seen.event
such_when test s steps d le = go (makes d s.seen.event || does test steps s d) le
  where
    go : (c : Bool) → latest_such test steps d ≤ reference_of s.seen.event
        → (if c then reference_of s.seen.event else latest_such test steps d) ≤ reference_of s.seen.event
    go true le' = omega arith
    go false le' = le'

such_within : (test : CallDone → Bool) (setting : Setting) (steps : List Step) (d : ℕ) → AreTimed setting steps
    → latest_such test steps d ≤ latest_reference (seen_of steps)
such_within test setting [] d timed = omega arith
such_within test setting (s ∷ steps) d timed =
    let le : latest_such test steps d ≤ latest_reference (seen_of steps) = such_within test setting steps d timed.0 in
    let on : latest_reference (seen_of steps) ≤ reference_of s.seen.event = timed.1.goes_on in
    such_when test s steps d (omega (arith, le, on))

-- One step of a device that acts after it

pub data TakeCourse (steps : List Step) (act : Act) (b : ℕ) (past : Past) : Type 0 where
  made : (making : Making) → past ≡ new_past making → TakeCourse steps act b past
  took : (old : Past) (duty : Duty) → past_in steps b ≡ Some old → makes_device act b ≡ false → given_now old ≡ Some duty → duty_now past ≡ Some duty
      → TakeCourse steps act b past
  began : (old : Past) → past_in steps b ≡ Some old → makes_device act b ≡ false → is_acting old ≡ false → has_moved old ≡ true → Inside old past
      → TakeCourse steps act b past
  stayed : (old : Past) → past_in steps b ≡ Some old → makes_device act b ≡ false → is_acting old ≡ true → Inside old past
      → ((call : Call) → act ≡ Calls b call → is_takeover_transition (transition_of old call) ≡ false) → TakeCourse steps act b past

is_taken_over : (transition : Transition) → is_takeover_transition transition ≡ true → transition ≡ TookOver
is_taken_over transition is = go transition is
  where
    go : (x : Transition) → is_takeover_transition x ≡ true → x ≡ TookOver
    go TookOver h = refl
    go (Entered duty edge) h = cc
    go (Committed duty) h = cc
    go (Recommitted duty) h = cc
    go (Accepted edge) h = cc
    go Moved h = cc
    go Emitted h = cc
    go Nothing h = cc

began_by : (steps : List Step) (call : Call) (b : ℕ) (old : Past) → past_in steps b ≡ Some old → is_acting old ≡ false
    → taken_up (transition_of old call) ≡ None → (transition : Transition) → transition_of old call ≡ transition → BeganToAct transition
    → TakeCourse steps (Calls b call) b (after old call)
began_by steps call b old there still none _ is by_takeover =
    let t : IsTakeover old call = is_takeover old call is in
    began old there refl still (takeover_from_backup old t.counter t.takes).moved (onward call none itself)
began_by steps call b old there still none _ is (by_commit duty) = absurd (clash (taken_up (transition_of old call)) none (ap taken_up is))
  where
    clash : (o : Option Duty) → o ≡ None → o ≡ Some duty → ⊥
    clash None x y = cc
    clash (Some z) x y = cc

same_call : (b : ℕ) (call other : Call) → Calls b call ≡ Calls b other → call ≡ other
same_call b call other same = cc

by_acting : (steps : List Step) (call : Call) (b : ℕ) (old : Past) → past_in steps b ≡ Some old → taken_up (transition_of old call) ≡ None
    → is_acting (after old call) ≡ true → (a : Bool) → is_acting old ≡ a
    → TakeCourse steps (Calls b call) b (after old call)
by_acting steps call b old there none acts false is = began_by steps call b old there is none (transition_of old call) refl (began_to_act old call is acts)
by_acting steps call b old there none acts true is =
    stayed old there refl is (onward call none itself)
    (λ other same.
    subst (λ c. is_takeover_transition (transition_of old c) ≡ false) (same_call b call other same)
    (false_from_ne_true (is_takeover_transition (transition_of old call))
    (λ takes. let t : IsTakeover old call = is_takeover old call (is_taken_over (transition_of old call) takes) in
    both_ways (is_acting old) (takeover_from_backup old t.counter t.takes).acts_not is)))

by_taken : (steps : List Step) (call : Call) (b : ℕ) (old : Past) → past_in steps b ≡ Some old → is_acting (after old call) ≡ true → (t : Option Duty)
    → taken_up (transition_of old call) ≡ t → TakeCourse steps (Calls b call) b (after old call)
by_taken steps call b old there acts (Some duty) is =
    took old duty there refl (takes_given old call duty is) (ap (λ o. map_or (option_map Some o) (duty_now old) (λ told. told)) is)
by_taken steps call b old there acts None is = by_acting steps call b old there is acts (is_acting old) refl

pub take_course : (steps : List Step) (act : Act) (b : ℕ) (past : Past) → past_after act b (past_in steps b) ≡ Some past → is_acting past ≡ true
    → TakeCourse steps act b past
take_course steps (Makes m making) b past is acts = go (nat_eq m b) refl is
  where
    go : (c : Bool) → nat_eq m b ≡ c → (if c then Some (new_past making) else past_in steps b) ≡ Some past → TakeCourse steps (Makes m making) b past
    go true id same = made making (sym (some_is same))
    go false id same = stayed past same id acts itself (λ call same_. cc)
take_course steps (Calls m call) b past is acts = go (nat_eq m b) refl is
  where
    here : (q : Option Past) → past_in steps b ≡ q → m ≡ b → option_map (λ old. after old call) q ≡ Some past → TakeCourse steps (Calls m call) b past
    here None there id same = cc
    here (Some old) there id same =
        subst (λ q. TakeCourse steps (Calls m call) b q) (some_is same)
        (subst (λ z. TakeCourse steps (Calls z call) b (after old call)) (sym id)
        (by_taken steps call b old there (ap is_acting (some_is same) ∙ acts) (taken_up (transition_of old call)) refl))

    go : (c : Bool) → nat_eq m b ≡ c → (if c then option_map (λ old. after old call) (past_in steps b) else past_in steps b) ≡ Some past
        → TakeCourse steps (Calls m call) b past
    go true id same = here (past_in steps b) refl (eqb-true m b id) same
    go false id same = stayed past same refl acts itself (λ other same_. absurd (not_both (nat_eq m b) (eq-eqb m b (named m b call other same_)) id))
      where
        named : (m b : ℕ) (call other : Call) → Calls m call ≡ Calls b other → m ≡ b
        named m b call other same = cc
take_course steps (Asks m counter) b past is acts = stayed past is refl acts itself (λ call same_. cc)
take_course steps Passes b past is acts = stayed past is refl acts itself (λ call same_. cc)

-- a start of the backup root does not make it act
made_still : (net : Network) (plan : Plan) (epoch d : ℕ) (making : Making) → is_root plan d ≡ false → is_backup_root plan d ≡ true
    → duty_now (new_past making) ≡ Some (duty_of net plan epoch d) → is_acting (new_past making) ≡ true → ⊥
made_still net plan epoch d (Joined rates counter clock eps) root backup has acts = cc
made_still net plan epoch d (Started duty counter clock eps) root backup has acts =
    both_ways (is_acting (new_past (Started duty counter clock eps)))
    (ap (λ (u : Duty). (elim u.role [ role.Root ↦ true | _ ↦ false ]) || false) (some_is has) ∙ (rw (root, backup) refl)) acts

module _ (setting : Setting) (fair : AreGuarded setting) (no_more : AtNext HearsNoMore setting) where
  abbrev Soon : List Event → Plan → Type 0
  Soon history pl =
      (moved (chronicle setting history) pl.backup_root ≡ true)
      × (took_over_at (chronicle setting history) pl.backup_root
      ≤ max (moved_at (chronicle setting history) pl.backup_root)
      (late setting (chronicle setting history) (first_at (thing.Device pl.root ∷ []) (seen_of (chronicle setting history))) + (depth setting.net + 1) * delay
      setting.net)
      + second_up setting.net pl + tick_gap setting.net)

  abbrev Says : List Event → Plan → Type 0
  Says history pl = is_old (chronicle setting history) pl.backup_root ≡ true → acts_in (chronicle setting history) pl.backup_root ≡ true → Soon history pl

  module _ (e : Event) (h : List Event) (clean : IsSteady setting (e ∷ h)) (each : AtEach (Invariant setting) (chronicle setting (e ∷ h)))
      (earlier : Says h (plan_now setting (chronicle setting h)))
      (old : is_old (chronicle setting (e ∷ h)) (plan_now setting (chronicle setting (e ∷ h))).backup_root ≡ true)
      (acts : acts_in (chronicle setting (e ∷ h)) (plan_now setting (chronicle setting (e ∷ h))).backup_root ≡ true) where
    abbrev plan : Plan
    plan = plan_now setting (chronicle setting (e ∷ h))

    abbrev b : ℕ
    b = (plan_now setting (chronicle setting (e ∷ h))).backup_root

    abbrev things : List Thing
    things = thing.Device (plan_now setting (chronicle setting (e ∷ h))).root ∷ []

    abbrev s : Seen
    s = (next_step setting (chronicle setting h) e).seen

    facts : IsSound setting.net (plan_now setting (chronicle setting (e ∷ h)))
    facts = sound_now setting (e ∷ h) fair clean.is

    all_timed : AreTimed setting (chronicle setting (e ∷ h))
    all_timed = timed setting (e ∷ h) (timely setting (e ∷ h) fair.network clean.is clean.premises)

    st : Stands setting (chronicle setting (e ∷ h)) b
    st = old_stands setting (e ∷ h) b old

    member : belongs setting.net plan b ≡ true
    member = and_from (nat_lt b (length setting.net.devices)) (is_member plan b)
        (lt-ltb b (length setting.net.devices) facts.fits.backup_root) facts.backup_member

    at_closing : s.closed ≡ true → ⊥
    at_closing closed =
        let steps : List Step = chronicle setting (e ∷ h) in
        let primary = begins (has_settled steps (era steps) b) (is_root plan b) (acts_in steps b) (on_primary steps b) _
        (implied (s.closed && belongs setting.net plan b) _ (each.1.core.closed.members b) (and_from s.closed (belongs setting.net plan b) closed member))
        (not_root setting.net plan facts) in
        both_ways (acts_in steps b) (idle_by (is_some (live_past steps b)) (moved steps b) (acts_in steps b) primary) acts

    module _ (open_ : s.closed ≡ false) where
      era_kept : era (chronicle setting (e ∷ h)) ≡ era (chronicle setting h)
      era_kept = epoch_kept s (seen_of (chronicle setting h)) open_

      now : StandsBy (chronicle setting (e ∷ h)) b st.past
      now = stands_so setting (e ∷ h) b st.past st.live st.there

      was_up : makes_device (act_by setting (chronicle setting h) e) b ≡ false → is_up (seen_of (chronicle setting h)) b ≡ true
      was_up none = up_since (makes b e) (fails (thing.Device b) e) (is_up (seen_of (chronicle setting h)) b) (all_timed.1.fits.makes_it b ∙ none) st.live

      old_then : (was : Past) → StandsBy (chronicle setting h) b was → Inside was st.past → is_old (chronicle setting h) b ≡ true
      old_then was then_ inside =
          ap (λ o. same_number o (era (chronicle setting h))) (then_.epoch_is
          ∙ ap (λ u. Some (map_or u 0 (λ v. v.epoch))) (sym (inside_duty was st.past inside)) ∙ sym now.epoch_is)
          ∙ ap (same_number (epoch_in (chronicle setting (e ∷ h)) b)) (sym era_kept) ∙ old

      root_now : root_failed setting (chronicle setting (e ∷ h)) ≡ true
      root_now = implied (backup_root_acts setting (chronicle setting (e ∷ h)))
          (root_failed setting (chronicle setting (e ∷ h))) each.1.core.causes.takeover acts

      grows : late setting (chronicle setting h) (first_at things (seen_of (chronicle setting h))) ≤ late setting (chronicle setting (e ∷ h))
          (first_at things (seen_of (chronicle setting (e ∷ h))))
      grows = late_stays setting e h things open_

      moved_up : moved_at (chronicle setting h) b ≤ moved_at (chronicle setting (e ∷ h)) b
      moved_up = moved_rises setting h (e ∷ h) b (behind whole) all_timed.0 all_timed

      abbrev Rests : Plan → Type 0
      Rests pl =
          is_old (chronicle setting h) pl.backup_root ≡ true → on_backup (chronicle setting h) pl.backup_root ≡ true
          → acts_in (chronicle setting h) pl.backup_root ≡ false
          → device_failed_now (chronicle setting h) pl.root ≡ true
          → reference_of e
          ≤ max (moved_at (chronicle setting h) pl.backup_root)
          (late setting (chronicle setting h) (first_at (thing.Device pl.root ∷ []) (seen_of (chronicle setting h))) + (depth setting.net + 1) * delay
          setting.net)
          + second_up setting.net pl + tick_gap setting.net

      rests : Rests (plan_now setting (chronicle setting h))
      rests old_ on still failed =
          let comes : IsNextEvent setting h e = record { fair = fair; clean = clean; before = each.0 } in
          let rest = rest_now setting h e comes old_ on in
          let last = no_more h e comes failed old_ still in
          omega (arith, rest, last)

      within_now : took_over_at (chronicle setting (e ∷ h)) b ≤ reference_of e
      within_now = such_within takes_over setting (chronicle setting (e ∷ h)) b all_timed

      by_first : (was : Past) → StandsBy (chronicle setting h) b was → Inside was st.past → has_moved was ≡ true → is_acting was ≡ false → (o : Option ℕ)
          → first_failure things (seen_of (chronicle setting h)) ≡ o
          → took_over_at (chronicle setting (e ∷ h)) b
          ≤ max (moved_at (chronicle setting (e ∷ h)) b)
          (late setting (chronicle setting (e ∷ h)) (first_at things (seen_of (chronicle setting (e ∷ h)))) + (depth setting.net + 1) * delay setting.net)
          + second_up setting.net plan + tick_gap setting.net
      by_first was then_ inside put still None none =
          let r = some_failed things (seen_of (chronicle setting (e ∷ h))) (thing.Device plan.root) first root_now in
          let at : first_at things (seen_of (chronicle setting (e ∷ h))) ≡ r.0 = ap (λ o. map_or o 0 (λ reference. reference)) r.1 in
          let is_now : reference_of e ≡ r.0 = first_is_now things s (seen_of (chronicle setting h)) r.0 open_ none r.1 in
          let since = late_since (nat_eq (era (chronicle setting (e ∷ h))) 1) (first_at things (seen_of (chronicle setting (e ∷ h))))
          (all_started setting (chronicle setting (e ∷ h))) in
          omega (arith, within_now, at, is_now, since)
      by_first was then_ inside put still (Some r) some =
          let rest : Rests plan = subst (λ n. Rests (plan_numbered setting n)) (sym era_kept) rests in
          let acts_not : acts_in (chronicle setting h) b ≡ false = then_.acts_is ∙ still in
          let le = rest (old_then was then_ inside)
          (both_two (moved (chronicle setting h) b) (acts_in (chronicle setting h) b) (then_.moved_is ∙ put) acts_not) acts_not
          (one_hit (failed_now (chronicle setting h)) (first_hits things (seen_of (chronicle setting h)) r some)) in
          omega (arith, le, within_now, grows, moved_up)
        where
          one_hit : (failed : List Thing) → touches failed things ≡ true → is_among failed (thing.Device plan.root) ≡ true
          one_hit failed is = go (is_among failed (thing.Device plan.root)) is
            where
              go : (c : Bool) → (c || false) ≡ true → c ≡ true
              go true h_ = refl
              go false h_ = cc

      same_took : makes_device (act_by setting (chronicle setting h) e) b ≡ false
          → ((call : Call) → act_by setting (chronicle setting h) e ≡ Calls b call → (was : Past) → past_in (chronicle setting h) b ≡ Some was
          → is_takeover_transition (transition_of was call) ≡ false)
          → took_over_at (chronicle setting (e ∷ h)) b ≡ took_over_at (chronicle setting h) b
      same_took makes_not takes_not =
          ap (λ c. if c then reference_of e else took_over_at (chronicle setting h) b)
          (or_from (makes b e) (does takes_over (chronicle setting h) (next_step setting (chronicle setting h) e) b) (all_timed.1.fits.makes_it b ∙ makes_not)
          (no_take (act_by setting (chronicle setting h) e) refl))
        where
          by_past : (p : Option Past) (call : Call) → past_in (chronicle setting h) b ≡ p
              → ((was : Past) → past_in (chronicle setting h) b ≡ Some was → is_takeover_transition (transition_of was call) ≡ false)
              → map_or (option_map (λ past. record { call = call; transition = transition_of past call }) p) false takes_over ≡ false
          by_past None call is none = refl
          by_past (Some was) call is none = none was is

          no_take : (act : Act) → act_by setting (chronicle setting h) e ≡ act → map_or (did_by (chronicle setting h) act b) false takes_over ≡ false
          no_take (Makes m making) is = refl
          no_take (Calls m call) is = go (nat_eq m b) refl
            where
              go : (c : Bool) → nat_eq m b ≡ c
                  → map_or (if c then option_map (λ past. record { call = call; transition = transition_of past call })
                  (past_in (chronicle setting h) b) else None) false takes_over ≡ false
              go true same = by_past (past_in (chronicle setting h) b) call refl (takes_not call (is ∙ ap (λ z. Calls z call) (eqb-true m b same)))
              go false same = refl
          no_take (Asks m counter) is = refl
          no_take Passes is = refl

      by_course : TakeCourse (chronicle setting h) (act_by setting (chronicle setting h) e) b st.past → Soon (e ∷ h) plan
      by_course (made making is) =
          absurd
          (made_still setting.net plan (era (chronicle setting (e ∷ h))) b making (not_root setting.net plan facts) (eq-eqb b b refl)
          (ap duty_now (sym is) ∙ st.duty) (ap is_acting (sym is) ∙ sym now.acts_is ∙ acts))
      by_course (took was duty there makes_not waits taken) =
          let due : duty.epoch ≡ era (chronicle setting h) + 1 =
          (waiting setting fair h (clean_before setting e h clean) each.0 b was (was_up makes_not) there).due
          (subst (λ n. belongs setting.net (plan_numbered setting n) b ≡ true) era_kept member) duty waits in
          let epoch_is : epoch_in (chronicle setting (e ∷ h)) b ≡ Some duty.epoch = now.epoch_is ∙ ap (λ u. Some (map_or u 0 (λ v. v.epoch))) taken in
          let same : duty.epoch ≡ era (chronicle setting (e ∷ h)) =
          eqb-true duty.epoch (era (chronicle setting (e ∷ h))) (sym (ap (λ o. same_number o (era (chronicle setting (e ∷ h)))) epoch_is) ∙ old) in
          absurd (omega (arith, due, same, era_kept))
      by_course (began was there makes_not still put inside) =
          let then_ : StandsBy (chronicle setting h) b was = stands_so setting h b was (was_up makes_not) there in
          (now.moved_is ∙ inside_moved was st.past inside put, by_first was then_ inside put still (first_failure things (seen_of (chronicle setting h))) refl)
      by_course (stayed was there makes_not acted inside takes_not) =
          let then_ : StandsBy (chronicle setting h) b was = stands_so setting h b was (was_up makes_not) there in
          let rest : Says h plan = subst (λ n. Says h (plan_numbered setting n)) (sym era_kept) earlier in
          let soon = rest (old_then was then_ inside) (then_.acts_is ∙ acted) in
          let same = same_took makes_not
          (λ call act other there_. subst (λ q. is_takeover_transition (transition_of q call) ≡ false) (some_is (sym there ∙ there_))
          (takes_not call act)) in
          let le = soon.1 in
          (now.moved_is ∙ inside_moved was st.past inside (sym then_.moved_is ∙ soon.0), omega (arith, le, same, grows, moved_up))

    by_closed : (c : Bool) → s.closed ≡ c → Soon (e ∷ h) plan
    by_closed true closed = absurd (at_closing closed)
    by_closed false open_ =
        by_course open_ (take_course (chronicle setting h) (act_by setting (chronicle setting h) e) b st.past st.there (sym st.acts_is ∙ acts))

    next_too : Soon (e ∷ h) plan
    next_too = by_closed s.closed refl

  soon : (history : List Event) → IsSteady setting history → AtEach (Invariant setting) (chronicle setting history)
      → Says history (plan_now setting (chronicle setting history))
  soon [] clean each old acts = cc
  soon (e ∷ h) clean each old acts = next_too e h clean each (soon h (clean_before setting e h clean) each.0) old acts

pub took_over_soon : (setting : Setting) → AtNext HearsNoMore setting → AtNext TookOverSoon setting
took_over_soon setting no_more history e comes old acts =
    soon setting comes.fair no_more history (clean_before setting e history comes.clean) comes.before old acts

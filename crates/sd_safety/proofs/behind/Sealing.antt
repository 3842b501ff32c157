-- The backup root is sealed before its first wait is over: at its start, or by the closing, at which it had heard at most W ago. By induction on the history:
-- in
-- an era it takes up nothing, since a duty that waits is of the staged plan.
use Rattle.std.specs.Prelude.{◌≡◌, ℕ, ◌+◌, ◌*◌, ◌≤◌, Bool, true, false, ◌&&◌, List, [], ◌∷◌, nat_eq, nat_le, nat_lt, length, Option, Some, None, is_some, option_map, refl, if◌then◌else◌}
use Rattle.std.proofs.Common.{arith, ◌∙◌, ap, sym, subst}
use Rattle.std.proofs.lemmas.Bool.{and_parts, and_from, eqb-true, eq-eqb, leb-true, lt-ltb}
use Rattle.sd_num.specs.Lists.{map_or, same_number}
use Rattle.sd_plan.specs.declared.topo.Thing.TheVariants as thing
use Rattle.sd_plan.specs.declared.Plan.{Plan}
use Rattle.sd_plan.specs.declared.Duty.{Duty}
use Rattle.sd_plan.specs.Plans.{is_member, is_root}
use Rattle.sd_checker.specs.check_root.Timing.{silence}
use Rattle.sd_device.specs.Calls.{Call, Past}
use Rattle.sd_device.specs.Words.{after, transition_of, duty_now, given_now, taken_up, is_sealed, is_seal}
use Rattle.sd_sched.specs.declared.Event.{Event}
use Rattle.sd_sched.specs.Events.{reference_of}
use Rattle.sd_history.specs.World.{Setting, Seen, makes, fails, is_up, latest_reference, plan_numbered}
use Rattle.sd_history.specs.Steps.{Act, Makes, Calls, Asks, Passes, Step, seen_of, act_by, acts_in, epoch_in, has_settled, live_answers, Answers}
use Rattle.sd_history.specs.Chronicle.{past_in, past_after, new_past, chronicle, next_step, answers_by}
use Rattle.sd_history.proofs.Given.{some_is, takes_given}
use Rattle.sd_history.proofs.Shared.{epoch_kept}
use Rattle.sd_safety.specs.invariant.Bounds.{first_low, first_up}
use Rattle.sd_safety.specs.invariant.Eras.{era, plan_now, is_old, moved, on_primary, live_past, heard_at, belongs}
use Rattle.sd_safety.specs.invariant.Invariant.{Invariant, AtEach}
use Rattle.sd_safety.specs.invariant.Guarded.{AreGuarded, IsSteady}
use Rattle.sd_safety.specs.invariant.Coming.{AtNext}
use Rattle.sd_safety.proofs.invariant.Parents.{live_is}
use Rattle.sd_safety.proofs.invariant.Prefix.{clean_before}
use Rattle.sd_safety.proofs.invariant.Sides.{implied}
use Rattle.sd_safety.specs.timers.Times.{AreTimed, makes_device, hears, seal_after, sealed_in}
use Rattle.sd_safety.specs.messages.Moments.{whole, behind}
use Rattle.sd_safety.proofs.timers.Pasts.{Inside, itself, onward, inside_duty, was_unmoved, was_not_acting}
use Rattle.sd_safety.proofs.timers.Sealed.{seal_within, sealed_since}
use Rattle.sd_safety.proofs.timers.Emissions.{reference_at_making}
use Rattle.sd_safety.proofs.timers.Histories.{timely, timed}
use Rattle.sd_safety.proofs.waits.SameReferences.{heard_is}
use Rattle.sd_safety.proofs.waits.Waits.{Stands, old_stands}
use Rattle.sd_safety.specs.behind.Pieces.{SealsSoon}
use Rattle.sd_safety.proofs.invariant.Facts.{IsSound, sound_now}
use Rattle.sd_safety.proofs.behind.BeforeFailure.{heard_rises}
use Rattle.sd_safety.proofs.behind.Moved.{StandsBy, stands_so, not_root}
use Rattle.sd_safety.proofs.behind.Waiting.{waiting}
use Rattle.sd_safety.proofs.waits.LookingBack.{all_three}
use Rattle.sd_safety.proofs.moves.Ahead.{up_since}
use Rattle.sd_safety.proofs.windows.Leading.{stands_by}

-- One step

pub data SealCourse (steps : List Step) (act : Act) (b : ℕ) (past : Past) : Type 0 where
  made : makes_device act b ≡ true → ((r : ℕ) (before : Option ℕ) → seal_after r act b (past_in steps b) before ≡ Some r) → SealCourse steps act b past
  took : (old : Past) (duty : Duty) → past_in steps b ≡ Some old → makes_device act b ≡ false → given_now old ≡ Some duty → duty_now past ≡ Some duty
      → SealCourse steps act b past
  kept : (old : Past) → past_in steps b ≡ Some old → makes_device act b ≡ false → Inside old past
      → ((r q : ℕ) (before : Option ℕ) → before ≡ Some q → seal_after r act b (past_in steps b) before ≡ Some q) → SealCourse steps act b past

by_taken : (steps : List Step) (call : Call) (b : ℕ) (old : Past) → past_in steps b ≡ Some old → nat_eq b b ≡ true → (t : Option Duty)
    → taken_up (transition_of old call) ≡ t → SealCourse steps (Calls b call) b (after old call)
by_taken steps call b old there id (Some duty) is =
    took old duty there refl (takes_given old call duty is) (ap (λ o. map_or (option_map Some o) (duty_now old) (λ told. told)) is)
by_taken steps call b old there id None is =
    kept old there refl (onward call is itself)
    (λ r q before same.
    ap (λ c. if c then map_or (past_in steps b) before
    (λ p. if is_some (taken_up (transition_of p call)) then None else if is_some before then before else if is_seal call then Some r else None) else before)
    id
    ∙ ap (λ o. map_or o before
    (λ p. if is_some (taken_up (transition_of p call)) then None else if is_some before then before else if is_seal call then Some r else None)) there
    ∙ ap (λ o. if is_some o then None else if is_some before then before else if is_seal call then Some r else None) is
    ∙ ap (λ o. if is_some o then o else if is_seal call then Some r else None) same)

pub seal_course : (steps : List Step) (act : Act) (b : ℕ) (past : Past) → past_after act b (past_in steps b) ≡ Some past → SealCourse steps act b past
seal_course steps (Makes m making) b past is = go (nat_eq m b) refl is
  where
    go : (c : Bool) → nat_eq m b ≡ c → (if c then Some (new_past making) else past_in steps b) ≡ Some past → SealCourse steps (Makes m making) b past
    go true id same = made id (λ r before. ap (λ c. if c then Some r else before) id)
    go false id same = kept past same id itself (λ r q before is_. ap (λ c. if c then Some r else before) id ∙ is_)
seal_course steps (Calls m call) b past is = go (nat_eq m b) refl is
  where
    here : (q : Option Past) → past_in steps b ≡ q → m ≡ b → option_map (λ old. after old call) q ≡ Some past → SealCourse steps (Calls m call) b past
    here None there id same = cc
    here (Some old) there id same =
        subst (λ q. SealCourse steps (Calls m call) b q) (some_is same)
        (subst (λ z. SealCourse steps (Calls z call) b (after old call)) (sym id)
        (by_taken steps call b old there (eq-eqb b b refl) (taken_up (transition_of old call)) refl))

    go : (c : Bool) → nat_eq m b ≡ c → (if c then option_map (λ old. after old call) (past_in steps b) else past_in steps b) ≡ Some past
        → SealCourse steps (Calls m call) b past
    go true id same = here (past_in steps b) refl (eqb-true m b id) same
    go false id same =
        kept past same refl itself
        (λ r q before is_. ap (λ c. if c then map_or (past_in steps b) before
        (λ p. if is_some (taken_up (transition_of p call)) then None else if is_some before then before else if is_seal call then Some
        r else None) else before) id ∙ is_)
seal_course steps (Asks m counter) b past is = kept past is refl itself (λ r q before is_. is_)
seal_course steps Passes b past is = kept past is refl itself (λ r q before is_. is_)

-- a device that settled is sealed
settled_sealed : (setting : Setting) (history : List Event) (d n : ℕ) (past : Past) → is_up (seen_of (chronicle setting history)) d ≡ true
    → past_in (chronicle setting history) d ≡ Some past
    → has_settled (chronicle setting history) n d ≡ true → is_sealed past ≡ true
settled_sealed setting history d n past up there settled =
    go (live_answers (chronicle setting history) d) (live_is setting history d
    ∙ ap (λ c. option_map answers_by (if c then past_in (chronicle setting history) d else None)) up ∙ ap (option_map answers_by) there) settled
  where
    go : (o : Option Answers) → o ≡ Some (answers_by past) → map_or o false (λ a. nat_eq a.epoch n && a.sealed) ≡ true → is_sealed past ≡ true
    go None is h = cc
    go (Some a) is h = ap (λ (x : Answers). x.sealed) (sym (some_is is)) ∙ (and_parts (nat_eq a.epoch n) a.sealed h).1

begun : (settled root acts primary short : Bool) → (settled && (if root then acts else primary && short)) ≡ true → root ≡ false
    → (settled ≡ true) × (short ≡ true)
begun true false acts true short c r = (refl, c)
begun true false acts false short c r = cc
begun true true acts primary short c r = cc
begun false root acts primary short c r = cc

module _ (setting : Setting) (fair : AreGuarded setting) where
  abbrev Sealed : List Event → Plan → Type 0
  Sealed history pl =
      (q : ℕ) × (sealed_in (chronicle setting history) pl.backup_root ≡ Some q)
      × (q ≤ heard_at (chronicle setting history) pl.backup_root + first_up setting.net pl)

  abbrev Says : List Event → Plan → Type 0
  Says history pl = is_old (chronicle setting history) pl.backup_root ≡ true → on_primary (chronicle setting history) pl.backup_root ≡ true → Sealed history pl

  module _ (e : Event) (h : List Event) (clean : IsSteady setting (e ∷ h)) (each : AtEach (Invariant setting) (chronicle setting (e ∷ h)))
      (earlier : Says h (plan_now setting (chronicle setting h)))
      (old : is_old (chronicle setting (e ∷ h)) (plan_now setting (chronicle setting (e ∷ h))).backup_root ≡ true)
      (primary : on_primary (chronicle setting (e ∷ h)) (plan_now setting (chronicle setting (e ∷ h))).backup_root ≡ true) where
    abbrev plan : Plan
    plan = plan_now setting (chronicle setting (e ∷ h))

    abbrev b : ℕ
    b = (plan_now setting (chronicle setting (e ∷ h))).backup_root

    abbrev s : Seen
    s = (next_step setting (chronicle setting h) e).seen

    facts : IsSound setting.net (plan_now setting (chronicle setting (e ∷ h)))
    facts = sound_now setting (e ∷ h) fair clean.is

    all_timed : AreTimed setting (chronicle setting (e ∷ h))
    all_timed = timed setting (e ∷ h) (timely setting (e ∷ h) fair.network clean.is clean.premises)

    st : Stands setting (chronicle setting (e ∷ h)) b
    st = old_stands setting (e ∷ h) b old

    member : belongs setting.net plan b ≡ true
    member = and_from (nat_lt b (length setting.net.devices)) (is_member plan b)
        (lt-ltb b (length setting.net.devices) facts.fits.backup_root) facts.backup_member

    at_closing : s.closed ≡ true → Sealed (e ∷ h) plan
    unfolding all_timed facts
    at_closing closed =
        let steps : List Step = chronicle setting (e ∷ h) in
        let both =
        begun (has_settled steps (era steps) b) (is_root plan b) (acts_in steps b) (on_primary steps b)
        (nat_le (latest_reference (seen_of steps)) (heard_at steps b + silence setting.net))
        (implied (s.closed && belongs setting.net plan b) _ (each.1.core.closed.members b) (and_from s.closed (belongs setting.net plan b) closed member))
        (not_root setting.net plan facts) in
        let since = sealed_since setting steps all_timed b st.past st.there (settled_sealed setting (e ∷ h) b (era steps) st.past st.live st.there both.0) in
        let within : since.0 ≤ latest_reference (seen_of steps) = seal_within setting steps all_timed b since.0 since.1 in
        let short : latest_reference (seen_of steps) ≤ heard_at steps b + silence setting.net =
        leb-true (latest_reference (seen_of steps)) (heard_at steps b + silence setting.net) both.1 in
        let long : 2 * (silence setting.net + setting.net.params.tick) ≤ first_low setting.net plan = facts.timed.first_long in
        let order = facts.timed.first_order in
        (since.0, since.1, omega (arith, within, short, long, order))

    by_course : s.closed ≡ false → SealCourse (chronicle setting h) (act_by setting (chronicle setting h) e) b st.past → Sealed (e ∷ h) plan
    by_course open_ (made makes_it at) =
        let heard_now : heard_at (chronicle setting (e ∷ h)) b ≡ reference_of e =
        heard_is setting (chronicle setting (e ∷ h)) all_timed b
        ∙ reference_at_making hears (next_step setting (chronicle setting h) e) (chronicle setting h) b makes_it in
        (reference_of e, at (reference_of e) (sealed_in (chronicle setting h) b), omega (arith, heard_now))
    by_course open_ (took was duty there makes_not waits taken) =
        let era_ : era (chronicle setting (e ∷ h)) ≡ era (chronicle setting h) = epoch_kept s (seen_of (chronicle setting h)) open_ in
        let up : is_up (seen_of (chronicle setting h)) b ≡ true =
        up_since (makes b e) (fails (thing.Device b) e) (is_up (seen_of (chronicle setting h)) b) (all_timed.1.fits.makes_it b ∙ makes_not) st.live in
        let due : duty.epoch ≡ era (chronicle setting h) + 1 =
        (waiting setting fair h (clean_before setting e h clean) each.0 b was up there).due
        (subst (λ n. belongs setting.net (plan_numbered setting n) b ≡ true) era_ member) duty waits in
        let now : StandsBy (chronicle setting (e ∷ h)) b st.past = stands_so setting (e ∷ h) b st.past st.live st.there in
        let epoch_is : epoch_in (chronicle setting (e ∷ h)) b ≡ Some duty.epoch = now.epoch_is ∙ ap (λ u. Some (map_or u 0 (λ v. v.epoch))) taken in
        let same : duty.epoch ≡ era (chronicle setting (e ∷ h)) =
        eqb-true duty.epoch (era (chronicle setting (e ∷ h))) (sym (ap (λ o. same_number o (era (chronicle setting (e ∷ h)))) epoch_is) ∙ old) in
        absurd (omega (arith, due, same, era_))
    by_course open_ (kept was there makes_not inside at) =
        let steps : List Step = chronicle setting h in
        let era_ : era (chronicle setting (e ∷ h)) ≡ era steps = epoch_kept s (seen_of steps) open_ in
        let up : is_up (seen_of steps) b ≡ true =
        up_since (makes b e) (fails (thing.Device b) e) (is_up (seen_of steps) b) (all_timed.1.fits.makes_it b ∙ makes_not) st.live in
        let then_ : StandsBy steps b was = stands_so setting h b was up there in
        let now : StandsBy (chronicle setting (e ∷ h)) b st.past = stands_so setting (e ∷ h) b st.past st.live st.there in
        let duty : duty_now st.past ≡ duty_now was = inside_duty was st.past inside in
        let old_ : is_old steps b ≡ true =
        ap (λ o. same_number o (era steps)) (then_.epoch_is ∙ ap (λ u. Some (map_or u 0 (λ v. v.epoch))) (sym duty) ∙ sym now.epoch_is)
        ∙ ap (same_number (epoch_in (chronicle setting (e ∷ h)) b)) (sym era_) ∙ old in
        let parts = stands_by (is_some (live_past (chronicle setting (e ∷ h)) b)) (moved (chronicle setting (e ∷ h)) b)
        (acts_in (chronicle setting (e ∷ h)) b) primary in
        let primary_ : on_primary steps b ≡ true =
        all_three (is_some (live_past steps b)) (moved steps b) (acts_in steps b) (ap (λ c. is_some (if c then past_in steps b else None)) up ∙ ap is_some there)
        (then_.moved_is ∙ was_unmoved was st.past inside (sym now.moved_is ∙ parts.0))
        (then_.acts_is ∙ was_not_acting was st.past inside (sym now.acts_is ∙ parts.1)) in
        let rest : Says h plan = subst (λ n. Says h (plan_numbered setting n)) (sym era_) earlier in
        let seal = rest old_ primary_ in
        let le : seal.0 ≤ heard_at steps b + first_up setting.net plan = seal.2 in
        let rises = heard_rises setting h (e ∷ h) b (behind whole) all_timed.0 all_timed in
        (seal.0, at (reference_of e) seal.0 (sealed_in steps b) seal.1, omega (arith, le, rises))

    by_closed : (c : Bool) → s.closed ≡ c → Sealed (e ∷ h) plan
    by_closed true closed = at_closing closed
    by_closed false open_ = by_course open_ (seal_course (chronicle setting h) (act_by setting (chronicle setting h) e) b st.past st.there)

    next_too : Sealed (e ∷ h) plan
    next_too = by_closed s.closed refl

  seals : (history : List Event) → IsSteady setting history → AtEach (Invariant setting) (chronicle setting history)
      → Says history (plan_now setting (chronicle setting history))
  seals [] clean each old primary = cc
  seals (e ∷ h) clean each old primary = next_too e h clean each (seals h (clean_before setting e h clean) each.0) old primary

pub seals_soon : (setting : Setting) → AtNext SealsSoon setting
seals_soon setting history e comes old primary = seals setting comes.fair history (clean_before setting e history comes.clean) comes.before old primary

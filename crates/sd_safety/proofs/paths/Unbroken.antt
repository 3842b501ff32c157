-- A device that is old before an event has been up since an earlier moment of the era at which it was, was not made anew, and entered no plan: so its life goes
-- on unbroken.
use Rattle.std.specs.Prelude.{◌≡◌, ℕ, ◌+◌, ◌≤◌, true, false, List, ◌∷◌, Some}
use Rattle.std.proofs.Common.{arith, ◌∙◌, ap, sym, subst}
use Rattle.std.proofs.lemmas.Bool.{false_from_ne_true}
use Rattle.std.proofs.Math.Nat.{le_antisymm}
use Rattle.sd_num.specs.Lists.{map_or}
use Rattle.sd_plan.specs.declared.topo.Thing.TheVariants as thing
use Rattle.sd_plan.specs.Plans.{is_member}
use Rattle.sd_device.specs.Calls.{Call, Past}
use Rattle.sd_device.specs.Words.{after, transition_of, given_now, epoch_now}
use Rattle.sd_sched.specs.declared.Event.{Event}
use Rattle.sd_history.specs.World.{Setting, makes, fails, is_up, plan_numbered}
use Rattle.sd_history.specs.Steps.{Calls, Step, seen_of}
use Rattle.sd_history.specs.Chronicle.{past_in, chronicle}
use Rattle.sd_history.proofs.Given.{takes_given}
use Rattle.sd_safety.specs.invariant.Eras.{era, plan_now, device_failed_now, is_old}
use Rattle.sd_safety.specs.invariant.Guarded.{IsSteady}
use Rattle.sd_safety.specs.invariant.Coming.{IsNextEvent}
use Rattle.sd_safety.proofs.invariant.Prefix.{clean_before}
use Rattle.sd_safety.proofs.invariant.Sides.{not_both}
use Rattle.sd_safety.specs.messages.Moments.{Tail, whole, behind, Moment, upto, IsIn, IsBefore}
use Rattle.sd_safety.specs.messages.Rounds.{IsUnbroken}
use Rattle.sd_safety.specs.messages.Stamping.{remakes, enters, EntersNot}
use Rattle.sd_safety.proofs.messages.Tails.{rest_of}
use Rattle.sd_safety.proofs.messages.Consecutive.{past_after_call}
use Rattle.sd_safety.proofs.silences.States.{not_old_and_new}
use Rattle.sd_safety.proofs.silences.NoMaking.{not_made}
use Rattle.sd_safety.proofs.silences.Phases.{era_grows, open_at, fails_among, fewer}
use Rattle.sd_safety.proofs.silences.SoundWays.{top_of}
use Rattle.sd_safety.proofs.windows.Given.{remakes_none}
use Rattle.sd_safety.proofs.windows.Senders.{IsCalled, called_is_up}
use Rattle.sd_safety.proofs.moves.Ahead.{IsAhead, always_ahead}
use Rattle.sd_safety.proofs.receipts.Stood.{taken_epoch}
use Rattle.sd_safety.proofs.entering.Source.{entering_takes}
use Rattle.sd_safety.proofs.entering.Stages.{Stage, stage}
use Rattle.sd_safety.proofs.entering.Entering.{new_from}
use Rattle.sd_safety.proofs.spans.PathHears.{IsSpared, spared}
use Rattle.sd_safety.proofs.messages.Opening.{up_stays_by}

-- who was up, and did not fail in the era, is up
pub up_on : (d : ℕ) (older steps : List Step) → Tail older steps → era steps ≤ era older → device_failed_now steps d ≡ false → is_up (seen_of older) d ≡ true
    → is_up (seen_of steps) d ≡ true
up_on d older _ whole le kept up = up
up_on d older _ (behind {x = s} {xs = earlier} t) le kept up =
    let before = era_grows older earlier t in
    let next = era_grows earlier (s ∷ earlier) (behind whole) in
    let open_ : s.seen.closed ≡ false = open_at s earlier (omega (arith, le, before)) in
    let stays : fails (thing.Device d) s.seen.event ≡ false =
    false_from_ne_true (fails (thing.Device d) s.seen.event)
    (λ is. not_both (device_failed_now (s ∷ earlier) d) (fails_among s earlier (thing.Device d) open_ is) kept) in
    up_stays_by (makes d s.seen.event) (fails (thing.Device d) s.seen.event) (is_up (seen_of earlier) d) stays
    (up_on d older earlier t (omega (arith, le, next)) (fewer (thing.Device d) earlier (s ∷ earlier) (behind whole) (omega (arith, le, before)) kept) up)

module _ (setting : Setting) (y : Event) (ys : List Event) (f : Event) (comes : IsNextEvent setting (y ∷ ys) f) (d : ℕ)
    (old : is_old (chronicle setting (y ∷ ys)) d ≡ true) (p : Moment)
    (late : era (chronicle setting (y ∷ ys)) ≤ era (upto p)) (up : is_up (seen_of (upto p)) d ≡ true) where
  abbrev steps : List Step
  steps = chronicle setting (y ∷ ys)

  clean : IsSteady setting (y ∷ ys)
  clean = clean_before setting f (y ∷ ys) comes.clean

  own : IsSpared setting (chronicle setting (y ∷ ys)) d
  own = spared setting y ys f comes d old

  -- at a moment in between
  module _ (r : Moment) (here : IsIn r (chronicle setting (y ∷ ys))) (since : IsBefore p r) where
    st : Stage setting r
    st = stage setting comes.fair r ys y clean comes.before.0 here

    earlier_is : r.earlier ≡ chronicle setting st.h
    earlier_is = ap (λ (q : Moment). q.earlier) st.is

    from_then : era (upto p) ≤ era r.earlier
    from_then = era_grows (upto p) r.earlier since

    to_now : era r.earlier ≤ era (chronicle setting (y ∷ ys))
    to_now = era_grows r.earlier steps (rest_of here)

    since_then : era (chronicle setting (y ∷ ys)) ≤ era r.earlier
    since_then = let a = late in let b = from_then in omega (arith, a, b)

    same : era (chronicle setting st.h) ≡ era (chronicle setting (y ∷ ys))
    same = sym (ap era earlier_is) ∙ le_antisymm to_now since_then

    up_then : is_up (seen_of (chronicle setting st.h)) d ≡ true
    up_then =
        subst (λ l. is_up (seen_of l) d ≡ true) earlier_is
        (up_on d (upto p) r.earlier since (let a = late in let b = to_now in
        omega (arith, a, b)) (fewer (thing.Device d) r.earlier steps (rest_of here) since_then own.self) up)

    member_then : is_member (plan_now setting (chronicle setting st.h)) d ≡ true
    member_then = subst (λ n. is_member (plan_numbered setting n) d ≡ true) (sym same) own.member

    none_made : remakes d r.step.act ≡ false
    none_made =
        subst (λ (q : Moment). remakes d q.step.act ≡ false) (sym st.is)
        (remakes_none setting (chronicle setting st.h) st.e d (not_made setting (chronicle setting st.h) st.e d st.comes.clean.is.1 up_then member_then))

    enters_none : (past : Past) (call : Call) → r.step.act ≡ Calls d call → past_in r.earlier d ≡ Some past → EntersNot past call
    enters_none past call act there =
        false_from_ne_true (enters (transition_of past call))
        (λ is.
        let duty = entering_takes (transition_of past call) is in
        let there_then : past_in (chronicle setting st.h) d ≡ Some past = subst (λ l. past_in l d ≡ Some past) earlier_is there in
        let given : given_now past ≡ Some duty.0 = takes_given past call duty.0 duty.1 in
        let ahead : IsAhead setting (chronicle setting st.h) d past duty.0 =
        always_ahead setting st.h st.comes.fair (clean_before setting st.e st.h st.comes.clean) st.comes.before d past up_then there_then duty.0 given in
        let number : epoch_now (after past call) ≡ era steps + 1 = taken_epoch past call duty.0 duty.1 ∙ ahead.number ∙ ap (λ n. n + 1) same in
        let called : IsCalled (chronicle setting st.h) st.e d =
        called_is_up setting (chronicle setting st.h) d call st.e st.comes.clean.is.1 (sym (ap (λ (q : Moment). q.step.act) st.is) ∙ act) in
        let up_next : is_up (seen_of (chronicle setting (st.e ∷ st.h))) d ≡ true =
        ap (λ o. map_or o (is_up (seen_of (chronicle setting st.h)) d) (λ told. told)) called.stays ∙ called.up in
        not_old_and_new steps d old
        (new_from setting (y ∷ ys) comes.fair clean comes.before r here d (after past call)
        (subst (λ (q : Moment). is_up (seen_of (upto q)) d ≡ true) (sym st.is) up_next) (past_after_call r d call past act there) number))

  pub unbroken_since : IsUnbroken p (top_of setting (y ∷ ys) f) d
  unbroken_since r here since = (none_made r here since, enters_none r here since)

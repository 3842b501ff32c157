-- Since a device last heard it has kept its entry, where it does not act; so what it is now it was at each event since. And on its backup since it last heard
-- or moved. By induction on the steps since.
use Rattle.std.specs.Prelude.{◌≡◌, ℕ, ◌<◌, ◌≤◌, Bool, true, false, ◌&&◌, List, ◌∷◌, nat_eq, Option, Some, None, is_some, option_map, refl, if◌then◌else◌}
use Rattle.std.proofs.Common.{arith, sym, ◌∙◌, ap, subst}
use Rattle.std.proofs.lemmas.Bool.{both_ways, false_from_ne_true}
use Rattle.sd_num.specs.Lists.{map_or}
use Rattle.sd_device.specs.Calls.{Call, CallDone, Past}
use Rattle.sd_device.specs.Words.{transition_of, after, taken_up, has_moved, is_acting, duty_now}
use Rattle.sd_device.proofs.Reached.{added}
use Rattle.sd_sched.specs.Events.{reference_of}
use Rattle.sd_history.specs.World.{Setting, latest_reference}
use Rattle.sd_history.specs.Steps.{Act, Makes, Calls, Asks, Passes, Step, seen_of}
use Rattle.sd_history.specs.Chronicle.{new_past, past_in, past_after}
use Rattle.sd_history.proofs.Given.{some_is}
use Rattle.sd_safety.specs.messages.Moments.{Tail, whole, behind}
use Rattle.sd_safety.specs.timers.Times.{AreTimed, did_by, hears, reference_after, reference_by}
use Rattle.sd_safety.specs.timers.Since.{SameEntry, at_once, goes_on, enters_by, marks_by, Unmarked, no_step, one_step}
use Rattle.sd_safety.proofs.timers.Transitions.{Cases, by_case}
use Rattle.sd_safety.proofs.timers.Pasts.{stays_acting}
use Rattle.sd_safety.proofs.timers.OneWay.{was_on_primary, same_duty_since}
use Rattle.sd_safety.proofs.timers.Emissions.{reference_rises}

-- At a mark the reference is that of the step, and else it stays.

told_at : (o : Option ℕ) (r before : ℕ) → is_some o ≡ true → map_or o before (λ c. r) ≡ r
told_at None r before h = cc
told_at (Some c) r before h = refl

marked_now : (f : CallDone → Option ℕ) (act : Act) (d r before : ℕ) (p : Option Past) → marks_by f act d p ≡ true → reference_after f r act d p before ≡ r
marked_now f (Makes m making) d r before p h = ap (λ b. if b then r else before) h
marked_now f (Calls m call) d r before p h = go (nat_eq m d) p h
  where
    go : (b : Bool) (q : Option Past) → (b && map_or q false (λ x. is_some (f (did_by x call)))) ≡ true
        → (if b then map_or q before (λ x. map_or (f (did_by x call)) before (λ c. r)) else before) ≡ r
    go true None h' = cc
    go true (Some x) h' = told_at (f (did_by x call)) r before h'
    go false q h' = cc
marked_now f (Asks m counter) d r before p h = cc
marked_now f Passes d r before p h = cc

-- What comes after the latest mark is unmarked.

head_reference : (setting : Setting) (t : Step) (older steps : List Step) → Tail (t ∷ older) steps → AreTimed setting steps
    → reference_of t.seen.event ≤ latest_reference (seen_of steps)
head_reference setting t older _ whole timed = omega arith
head_reference setting t older _ (behind {x = s} {xs = earlier} tail) timed =
    let rest : reference_of t.seen.event ≤ latest_reference (seen_of earlier) = head_reference setting t older earlier tail timed.0 in
    let on : latest_reference (seen_of earlier) ≤ reference_of s.seen.event = timed.1.goes_on in
    omega (arith, rest, on)

-- since a step that is later than the mark, the device was not marked
pub unmarked_since : (f : CallDone → Option ℕ) (setting : Setting) (t : Step) (older steps : List Step) (d : ℕ) → Tail (t ∷ older) steps → AreTimed setting steps
    → reference_by f steps d < reference_of t.seen.event → Unmarked f d older steps
unmarked_since f setting t older _ d whole timed lt = one_step (false_from_ne_true (marks_by f t.act d (past_in older d)) never) no_step
  where
    never : marks_by f t.act d (past_in older d) ≡ true → ⊥
    never e = let at : reference_by f (t ∷ older) d ≡ reference_of t.seen.event =
        marked_now f t.act d (reference_of t.seen.event) (reference_by f older d) (past_in older d) e in omega (arith, at, lt)
unmarked_since f setting t older _ d (behind {x = s} {xs = earlier} tail) timed lt =
    let head : reference_of t.seen.event ≤ latest_reference (seen_of earlier) = head_reference setting t older earlier tail timed.0 in
    let on : latest_reference (seen_of earlier) ≤ reference_of s.seen.event = timed.1.goes_on in
    let rises : reference_by f earlier d ≤ reference_by f (s ∷ earlier) d = reference_rises f setting earlier (s ∷ earlier) d (behind whole) timed in
    one_step (false_from_ne_true (marks_by f s.act d (past_in earlier d)) (never head on))
    (unmarked_since f setting t older earlier d tail timed.0 (omega (arith, rises, lt)))
  where
    never : reference_of t.seen.event ≤ latest_reference (seen_of earlier) → latest_reference (seen_of earlier) ≤ reference_of s.seen.event
        → marks_by f s.act d (past_in earlier d) ≡ true → ⊥
    never head on e =
        let at : reference_by f (s ∷ earlier) d ≡ reference_of s.seen.event =
        marked_now f s.act d (reference_of s.seen.event) (reference_by f earlier d) (past_in earlier d) e in
        omega (arith, at, lt, head, on)

-- A device that does not act kept its entry since it heard.

-- a call that is no accepted receipt takes up nothing, or leaves the device acting
keeps_or_acts : (past : Past)
    → Cases past (λ call transition. is_some (hears (record { call = call; transition = transition })) ≡ false → is_acting (added past call transition) ≡ false
    → taken_up transition ≡ None)
keeps_or_acts past =
    record {
      emitted = λ c e h acts. refl;
      took = λ c e t h acts. refl;
      moved = λ c e t m h acts. refl;
      still = λ c e t m h acts. refl;
      entered = λ link message c duty edge h acts. cc;
      accepted = λ link message c edge h acts. refl;
      committed = λ c duty a h acts. cc;
      recommitted = λ c duty a h acts. cc;
      nothing = λ call n h acts. refl;
    }

pub takes_nothing : (past : Past) (call : Call) → is_some (hears (did_by past call)) ≡ false → is_acting (after past call) ≡ false
    → taken_up (transition_of past call) ≡ None
takes_nothing past call h acts =
    by_case past (λ c transition. is_some (hears (record { call = c; transition = transition })) ≡ false → is_acting (added past c transition) ≡ false
    → taken_up transition ≡ None) (keeps_or_acts past) call h acts

acted_not : (past : Past) (call : Call) → taken_up (transition_of past call) ≡ None → is_acting (after past call) ≡ false → is_acting past ≡ false
acted_not past call none still =
    false_from_ne_true (is_acting past) (λ acts. both_ways (is_acting (after past call)) still (stays_acting past call (transition_of past call) none acts))

pub before_act : (act : Act) (d : ℕ) (p : Option Past) (past : Past) → marks_by hears act d p ≡ false → past_after act d p ≡ Some past → is_acting past ≡ false
    → (old : Past) × (p ≡ Some old) × (is_acting old ≡ false) × (enters_by act d p ≡ false)
before_act (Makes m making) d p past none same still = (past, sym (ap (λ b. if b then Some (new_past making) else p) none) ∙ same, still, none)
before_act (Calls m call) d p past none same still = go (nat_eq m d) p none same
  where
    go : (b : Bool) (q : Option Past) → (b && map_or q false (λ x. is_some (hears (did_by x call)))) ≡ false
        → (if b then option_map (λ x. after x call) q else q) ≡ Some past
        → (old : Past) × (q ≡ Some old) × (is_acting old ≡ false) × ((b && map_or q false (λ x. is_some (taken_up (transition_of x call)))) ≡ false)
    go true None h same' = cc
    go true (Some x) h same' =
        let now : is_acting (after x call) ≡ false = subst (λ y. is_acting y ≡ false) (sym (some_is same')) still in
        let none' : taken_up (transition_of x call) ≡ None = takes_nothing x call h now in (
          x,
          refl,
          acted_not x call none' now,
          ap is_some none',
        )
    go false q h same' = (past, same', still, refl)
before_act (Asks m counter) d p past none same still = (past, same, still, refl)
before_act Passes d p past none same still = (past, same, still, refl)

-- the earlier past of a device that does not act, of the same entry
pub record Same (d : ℕ) (older steps : List Step) (past : Past) : Type 0 where
  pub old : Past
  pub there : past_in older d ≡ Some old
  pub since : SameEntry d older steps
  pub acts_not : is_acting old ≡ false
  pub duty : duty_now past ≡ duty_now old

entry_kept : (d : ℕ) (older steps : List Step) (past : Past) → Unmarked hears d older steps → past_in steps d ≡ Some past → is_acting past ≡ false
    → (old : Past) × (past_in older d ≡ Some old) × (is_acting old ≡ false) × SameEntry d older steps
entry_kept d older _ past no_step is still = (past, is, still, at_once)
entry_kept d older _ past (one_step {s = s} {steps = steps} none rest) is still =
    let b = before_act s.act d (past_in steps d) past none is still in
    let more = entry_kept d older steps b.0 rest b.1 b.2 in (
      more.0,
      more.1,
      more.2,
      goes_on b.3 more.3,
    )

-- since a device that does not act last heard, it has kept its entry
pub same_since_heard : (d : ℕ) (older steps : List Step) (past : Past) → Unmarked hears d older steps → past_in steps d ≡ Some past → is_acting past ≡ false
    → Same d older steps past
same_since_heard d older steps past none is still =
    let k = entry_kept d older steps past none is still in
    record { old = k.0; there = k.1; acts_not = k.2; since = k.3; duty = same_duty_since d older steps k.0 past k.3 k.1 is }

-- on its primary now: on its primary at each event since it heard
pub primary_since_heard : (d : ℕ) (older steps : List Step) (past : Past) (none : Unmarked hears d older steps) (is : past_in steps d ≡ Some past)
    (still : is_acting past ≡ false) → has_moved past ≡ false
    → has_moved (same_since_heard d older steps past none is still).old ≡ false
primary_since_heard d older steps past none is still unmoved =
    let k : Same d older steps past = same_since_heard d older steps past none is still in
    was_on_primary d older steps k.old past k.since k.there is unmoved

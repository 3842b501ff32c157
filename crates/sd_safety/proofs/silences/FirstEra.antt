-- A commit stays in its window, and a device that emits is up.
use Rattle.std.specs.Prelude.{◌≡◌, ℕ, ◌+◌, ◌≤◌, Bool, true, false, ◌&&◌, ◌||◌, not, List, [], ◌∷◌, Option, Some, None, is_some, option_map, refl, if◌then◌else◌}
use Rattle.std.specs.List.{list_any}
use Rattle.std.proofs.Common.{arith, ◌∙◌, ap, subst}
use Rattle.std.proofs.lemmas.Bool.{or_parts, eqb-true, eq-eqb, true_from_ne_false}
use Rattle.sd_num.specs.Lists.{map_or, same_number}
use Rattle.sd_plan.specs.declared.topo.Thing.TheVariants as thing
use Rattle.sd_history.specs.Admitted.{Admits}
use Rattle.sd_device.specs.declared.msg.Message.{Message}
use Rattle.sd_sched.specs.declared.Event.{Event}
use Rattle.sd_sched.specs.declared.Event.TheVariants as event
use Rattle.sd_sched.specs.Events.{reference_of, ticked, is_stage, is_commit}
use Rattle.sd_history.specs.World.{Setting, Seen, makes, fails, is_up, window, window_is_open, has_commit}
use Rattle.sd_history.specs.Steps.{Calls, Step, seen_of}
use Rattle.sd_history.specs.Chronicle.{chronicle}
use Rattle.sd_history.specs.Refusals.{window_order, window_order_seen, window_order_within, not_started}
use Rattle.sd_history.proofs.Clear.{clear}
use Rattle.sd_safety.specs.invariant.Eras.{era, all_started}
use Rattle.sd_safety.specs.invariant.Coming.{IsNextEvent}
use Rattle.sd_safety.proofs.invariant.Sides.{not_both}
use Rattle.sd_safety.specs.messages.Moments.{Tail, whole, behind, IsChronicle, Moment, upto, Emits}
use Rattle.sd_safety.proofs.messages.Opening.{sending_fails_not, up_stays_by}
use Rattle.sd_safety.specs.timers.Times.{AreTimed, ticks_device}
use Rattle.sd_safety.proofs.silences.Phases.{era_grows, open_at}
use Rattle.sd_safety.proofs.silences.Spacing.{emission_counts}

-- A commit stays in its window.

stage_not : (setting : Setting) (steps : List Step) (e : Event) → Admits setting steps e → (is_stage e && window_is_open (seen_of steps)) ≡ false
stage_not setting steps e none =
    let order : window_order setting steps e ≡ false =
    (clear setting steps e none).in_window in
    let seen = (or_parts (window_order_seen setting (seen_of steps) e) (window_order_within steps e) order).0 in
    (or_parts (is_stage e && window_is_open (seen_of steps)) _ (or_parts _ _ (or_parts _ _ seen).0).0).0

commit_by : (s : Seen) (seen : List Seen) (c g : Bool) (w : Option (List Seen)) → c ≡ false → (g && is_some w) ≡ false
    → map_or w false (list_any (λ x. is_commit x.event)) ≡ true
    → map_or (if c then None else if g then Some [] else option_map (λ v. s ∷ v) w) false (list_any (λ x. is_commit x.event)) ≡ true
commit_by s seen c g None open_ stage h = cc
commit_by s seen true g (Some v) open_ stage h = cc
commit_by s seen false true (Some v) open_ stage h = cc
commit_by s seen false false (Some v) open_ stage h = either (is_commit s.event) (list_any (λ x. is_commit x.event) v) h
  where
    either : (a b : Bool) → b ≡ true → (a || b) ≡ true
    either true b h = refl
    either false b h = h

pub commit_stays : (setting : Setting) (older steps : List Step) → Tail older steps → IsChronicle setting steps → era steps ≤ era older
    → has_commit (seen_of older) ≡ true → has_commit (seen_of steps) ≡ true
commit_stays setting older _ whole is le h = h
commit_stays setting older _ (behind {x = s} {xs = earlier} t) is le h =
    let before_ = era_grows older earlier t in
    let next = era_grows earlier (s ∷ earlier) (behind whole) in
    commit_by s.seen (seen_of earlier) s.seen.closed (is_stage s.seen.event) (window (seen_of earlier)) (open_at s earlier (omega (arith, le, before_)))
    (stage_not setting earlier s.seen.event is.2)
    (commit_stays setting older earlier t is.0 (omega (arith, le, next)) h)

-- A device that sends is up.

tick_is : (d : ℕ) (e : Event) → same_number (ticked e) d ≡ true → (c : ℕ) × (e ≡ event.Tick (reference_of e) d c)
tick_is d (event.Tick r k c) h = (c, ap (λ z. event.Tick r z c) (eqb-true k d h))
tick_is d _ h = cc

pub emitter_up : (setting : Setting) (p : Moment) (y : ℕ) (m : Message) → IsChronicle setting (upto p) → AreTimed setting (upto p) → Emits p y m
    → is_up (seen_of (upto p)) y ≡ true
emitter_up setting p y m is timed_ emits =
    let s = emits.sends in
    let call = emission_counts s.past s.call emits.emission in
    let ticks : ticks_device p.step.act y ≡ true = ap (λ act. ticks_device act y) (s.act ∙ ap (Calls y) call.2) ∙ ap (λ b. b && true) (eq-eqb y y refl) in
    let tick = tick_is y p.step.seen.event (timed_.1.fits.ticks_it y ∙ ticks) in
    let up : is_up (seen_of p.earlier) y ≡ true =
    true_from_ne_false (is_up (seen_of p.earlier) y)
    (λ down. not_both (not (is_up (seen_of p.earlier) y)) (ap not down)
    (subst (λ e. not_started (seen_of p.earlier) e ≡ false) tick.1
    (clear setting p.earlier p.step.seen.event is.2).device_up)) in
    up_stays_by (makes y p.step.seen.event) (fails (thing.Device y) p.step.seen.event) (is_up (seen_of p.earlier) y)
    (sending_fails_not setting p y m (thing.Device y) is s) up

pub number_is : (o : Option ℕ) (n k : ℕ) → o ≡ Some n → n ≡ k → same_number o k ≡ true
number_is o n k is same = ap (λ z. same_number z k) is ∙ eq-eqb n k same

pub one_by : (n : ℕ) → n + 1 ≤ 1 → n + 1 ≡ 1
one_by n le = omega (arith, le)

module _ (setting : Setting) (x : Event) (h : List Event) (e : Event) (comes : IsNextEvent setting (x ∷ h) e) (s0 : ℕ)
    (started : all_started setting (chronicle setting (x ∷ h)) ≤ s0) (first_era : era (chronicle setting (x ∷ h)) ≡ 1)
    (calm : has_commit (seen_of (chronicle setting (x ∷ h))) ≡ false) where
  abbrev steps : List Step
  steps = chronicle setting (x ∷ h)

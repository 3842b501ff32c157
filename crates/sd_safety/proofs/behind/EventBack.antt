-- One event back, of a device that has moved: it had moved before, at the same reference, or it stood on its primary and moves with the event; its epoch is the
-- same. So it had moved, and was of the same epoch, at each event later than its move. By induction on the history.
use Rattle.std.specs.Prelude.{◌≡◌, ℕ, ◌<◌, ◌≤◌, Bool, true, false, List, ◌∷◌, Option, Some, None, is_some, refl, if◌then◌else◌}
use Rattle.std.proofs.Common.{arith, ◌∙◌, ap, sym, subst}
use Rattle.sd_num.specs.Lists.{map_or}
use Rattle.sd_plan.specs.declared.topo.Thing.TheVariants as thing
use Rattle.sd_device.specs.Calls.{Past}
use Rattle.sd_device.specs.Words.{has_moved}
use Rattle.sd_sched.specs.declared.Event.{Event}
use Rattle.sd_sched.specs.Events.{reference_of}
use Rattle.sd_history.specs.World.{Setting, makes, fails, is_up, latest_reference}
use Rattle.sd_history.specs.Steps.{Step, seen_of, acts_in, epoch_in, act_by}
use Rattle.sd_history.specs.Chronicle.{past_in, chronicle}
use Rattle.sd_safety.specs.messages.Moments.{Tail, whole, behind}
use Rattle.sd_safety.specs.invariant.Eras.{live_past, moved, on_primary, moved_at}
use Rattle.sd_safety.specs.timers.Times.{AreTimed, moved_in}
use Rattle.sd_safety.proofs.waits.SameReferences.{moved_is}
use Rattle.sd_safety.proofs.behind.Moved.{Course, stayed, went, course, made_not, StandsBy, stands_so}
use Rattle.sd_safety.proofs.waits.LookingBack.{all_three}
use Rattle.sd_safety.proofs.moves.Ahead.{up_since}

pub data WasMoved (setting : Setting) (e : Event) (h : List Event) (b : ℕ) : Type 0 where
  kept : moved (chronicle setting h) b ≡ true → epoch_in (chronicle setting h) b ≡ epoch_in (chronicle setting (e ∷ h)) b
      → moved_at (chronicle setting (e ∷ h)) b ≡ moved_at (chronicle setting h) b → WasMoved setting e h b
  goes : on_primary (chronicle setting h) b ≡ true → epoch_in (chronicle setting h) b ≡ epoch_in (chronicle setting (e ∷ h)) b
      → moved_at (chronicle setting (e ∷ h)) b ≡ reference_of e → WasMoved setting e h b

moved_past : (b : Bool) (p : Option Past) → map_or (if b then p else None) false has_moved ≡ true
    → (b ≡ true) × (past : Past) × (p ≡ Some past) × (has_moved past ≡ true)
moved_past true None h = cc
moved_past true (Some past) h = (refl, past, refl, h)
moved_past false p h = cc

module _ (setting : Setting) (e : Event) (h : List Event) (b : ℕ) (all_timed : AreTimed setting (chronicle setting (e ∷ h))) where
  by_course : (past : Past) → is_up (seen_of (chronicle setting h)) b ≡ true → is_up (seen_of (chronicle setting (e ∷ h))) b ≡ true
      → past_in (chronicle setting (e ∷ h)) b ≡ Some past
      → Course (chronicle setting h) (act_by setting (chronicle setting h) e) b past → WasMoved setting e h b
  by_course past up up' there' (stayed was there put duty same) =
      let now : StandsBy (chronicle setting h) b was = stands_so setting h b was up there in
      let next : StandsBy (chronicle setting (e ∷ h)) b past = stands_so setting (e ∷ h) b past up' there' in
      kept (now.moved_is ∙ put) (now.epoch_is ∙ ap (λ u. Some (map_or u 0 (λ v. v.epoch))) (sym duty) ∙ sym next.epoch_is)
      (moved_is setting (chronicle setting (e ∷ h)) all_timed b ∙ same (reference_of e) (moved_in (chronicle setting h) b)
      ∙ sym (moved_is setting (chronicle setting h) all_timed.0 b))
  by_course past up up' there' (went was there put still duty now_) =
      let steps : List Step = chronicle setting h in
      let now : StandsBy steps b was = stands_so setting h b was up there in
      let next : StandsBy (chronicle setting (e ∷ h)) b past = stands_so setting (e ∷ h) b past up' there' in
      goes (all_three (is_some (live_past steps b)) (moved steps b) (acts_in steps b)
      (ap (λ c. is_some (if c then past_in steps b else None)) up ∙ ap is_some there) (now.moved_is ∙ put) (now.acts_is ∙ still))
      (now.epoch_is ∙ ap (λ u. Some (map_or u 0 (λ v. v.epoch))) (sym duty) ∙ sym next.epoch_is)
      (moved_is setting (chronicle setting (e ∷ h)) all_timed b ∙ now_ (reference_of e) (moved_in steps b))

  pub step_back : moved (chronicle setting (e ∷ h)) b ≡ true → WasMoved setting e h b
  step_back put =
      let p = moved_past (is_up (seen_of (chronicle setting (e ∷ h))) b) (past_in (chronicle setting (e ∷ h)) b) put in
      let up : is_up (seen_of (chronicle setting h)) b ≡ true =
      up_since (makes b e) (fails (thing.Device b) e) (is_up (seen_of (chronicle setting h)) b)
      (all_timed.1.fits.makes_it b ∙ made_not (chronicle setting h) (act_by setting (chronicle setting h) e) b p.1 p.2 p.3) p.0 in
      by_course p.1 up p.0 p.2 (course (chronicle setting h) (act_by setting (chronicle setting h) e) b p.1 p.2 p.3)

-- an event is no later than the latest
pub no_later : (setting : Setting) (z : Event) (earlier history : List Event) → Tail (z ∷ earlier) history → AreTimed setting (chronicle setting history)
    → reference_of z ≤ latest_reference (seen_of (chronicle setting history))
no_later setting z earlier _ whole timed = omega arith
no_later setting z earlier _ (behind {x = w} {xs = hs} rest) timed =
    let le : reference_of z ≤ latest_reference (seen_of (chronicle setting hs)) = no_later setting z earlier hs rest timed.0 in
    let on : latest_reference (seen_of (chronicle setting hs)) ≤ reference_of w = timed.1.goes_on in
    omega (arith, le, on)

pub moved_then : (setting : Setting) (z : Event) (earlier history : List Event) (b : ℕ) → Tail (z ∷ earlier) history
    → AreTimed setting (chronicle setting history) → moved (chronicle setting history) b ≡ true
    → moved_at (chronicle setting history) b < reference_of z
    → (moved (chronicle setting earlier) b ≡ true) × (epoch_in (chronicle setting earlier) b ≡ epoch_in (chronicle setting history) b)
moved_then setting z earlier _ b whole timed put lt = by (step_back setting z earlier b timed put)
  where
    by : WasMoved setting z earlier b → (moved (chronicle setting earlier) b ≡ true)
        × (epoch_in (chronicle setting earlier) b ≡ epoch_in (chronicle setting (z ∷ earlier)) b)
    by (kept m ep at) = (m, ep)
    by (goes on ep at) = absurd (omega (arith, at, lt))
moved_then setting z earlier _ b (behind {x = w} {xs = hs} rest) timed put lt =
    by (step_back setting w hs b timed put) (λ m l. moved_then setting z earlier hs b rest timed.0 m l)
    (no_later setting z earlier hs rest timed.0) timed.1.goes_on
  where
    by : WasMoved setting w hs b
        → (moved (chronicle setting hs) b ≡ true → moved_at (chronicle setting hs) b < reference_of z
        → (moved (chronicle setting earlier) b ≡ true) × (epoch_in (chronicle setting earlier) b ≡ epoch_in (chronicle setting hs) b))
        → reference_of z ≤ latest_reference (seen_of (chronicle setting hs)) → latest_reference (seen_of (chronicle setting hs)) ≤ reference_of w
        → (moved (chronicle setting earlier) b ≡ true) × (epoch_in (chronicle setting earlier) b ≡ epoch_in (chronicle setting (w ∷ hs)) b)
    by (kept m ep at) more le on = let r = more m (subst (λ q. q < reference_of z) at lt) in (r.0, r.1 ∙ ep)
    by (goes on_ ep at) more le on = absurd (omega (arith, at, lt, le, on))

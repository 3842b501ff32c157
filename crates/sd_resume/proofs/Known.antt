-- What an event names is a device or a link of the network, and so is what is failed in accepted steps.
use Rattle.std.specs.Prelude.{◌≡◌, ℕ, ◌<◌, Bool, true, false, List, [], ◌∷◌, length, nat_eq, nat_le, Option, Some, None, refl}
use Rattle.std.proofs.Common.{ap, subst, sym, ◌∙◌}
use Rattle.std.proofs.Math.Bool.{or-false}
use Rattle.std.proofs.lemmas.Bool.{leb-false, eqb-true}
use Rattle.sd_plan.specs.declared.topo.Thing.{Thing}
use Rattle.sd_plan.specs.declared.topo.Thing.TheVariants.{Device, Link}
use Rattle.sd_num.specs.Lists.{map_or}
use Rattle.sd_sched.specs.declared.Event.{Event}
use Rattle.sd_sched.specs.declared.Event.TheVariants as event
use Rattle.sd_sched.specs.Events.{device_of, link_of}
use Rattle.sd_history.specs.Things.{mended}
use Rattle.sd_history.specs.World.{Setting, makes, fails, is_thing, has_failed}
use Rattle.sd_history.specs.Steps.{Step, seen_of}
use Rattle.sd_history.specs.Refusals.{refusal, unknown_device, unknown_link}
use Rattle.sd_history.specs.Accepted.{AreSteps}
use Rattle.sd_history.proofs.Admitted.{accepted_is_admitted}
use Rattle.sd_history.proofs.Clear.{clear}
use Rattle.sd_history.proofs.Known.{up_case}

-- the network has the thing
abbrev pub IsKnown : Setting → Thing → Type 0
IsKnown setting (Device d) = d < length setting.net.devices
IsKnown setting (Link l) = l < length setting.net.links

-- a number that is named and not beyond the last
known_number : (bound : ℕ) (o : Option ℕ) (n : ℕ) → map_or o false (λ x. nat_le bound x) ≡ false → o ≡ Some n → n < bound
known_number bound None n known same = cc
known_number bound (Some x) n known same = subst (λ k. k < bound) (ap (λ o. map_or o x (λ z. z)) same) (leb-false bound x known)

-- the event names nothing that the network has not
pub record NamesKnown (setting : Setting) (e : Event) : Type 0 where
  pub device : unknown_device setting e ≡ false
  pub link : unknown_link setting e ≡ false

pub device_is_known : (setting : Setting) (e : Event) (d : ℕ) → NamesKnown setting e → device_of e ≡ Some d → d < length setting.net.devices
device_is_known setting e d known named = known_number (length setting.net.devices) (device_of e) d known.device named

-- what it makes is known
pub making_is_known : (setting : Setting) (e : Event) (d : ℕ) → NamesKnown setting e → makes d e ≡ true → d < length setting.net.devices
making_is_known setting (event.Start r m c clock eps) d known is =
    device_is_known setting (event.Start r m c clock eps) d known (ap Some (eqb-true m d (sym (or-false (nat_eq m d)) ∙ is)))
making_is_known setting (event.Join r m c clock eps) d known is =
    device_is_known setting (event.Join r m c clock eps) d known (ap Some (eqb-true m d is))
making_is_known setting _ d known is = cc

-- what it fails is known
pub failing_is_known : (setting : Setting) (e : Event) (x : Thing) → NamesKnown setting e → fails x e ≡ true → IsKnown setting x
failing_is_known setting (event.FailDevice r d) (Device k) known is = device_is_known setting (event.FailDevice r d) k known (ap Some (sym (eqb-true k d is)))
failing_is_known setting (event.FailLink r l) (Link k) known is =
    known_number (length setting.net.links) (link_of (event.FailLink r l)) k known.link (ap Some (sym (eqb-true k l is)))
failing_is_known setting (event.FailDevice r d) (Link k) known is = cc
failing_is_known setting (event.FailLink r l) (Device k) known is = cc
failing_is_known setting _ x known is = cc

accepted_names_known : (setting : Setting) (steps : List Step) (e : Event) → refusal setting steps e ≡ None → NamesKnown setting e
accepted_names_known setting steps e none =
    let admits = accepted_is_admitted setting steps e none in
    record { device = (clear setting steps e admits).device_known; link = (clear setting steps e admits).link_known }

-- what is failed in accepted steps is known
pub failed_is_known : (setting : Setting) (steps : List Step) (x : Thing) → AreSteps setting steps → has_failed (seen_of steps) x ≡ true → IsKnown setting x
failed_is_known setting [] x is failed = cc
failed_is_known setting (s ∷ earlier) x is failed =
    go (fails x s.seen.event) refl
    (up_case (fails x s.seen.event) (is_thing (mended s.seen.event) x) (has_failed (seen_of earlier) x) failed)
    (failed_is_known setting earlier x is.0)
  where
    go : (b : Bool) → fails x s.seen.event ≡ b → (b ≡ false → has_failed (seen_of earlier) x ≡ true)
        → (has_failed (seen_of earlier) x ≡ true → IsKnown setting x) → IsKnown setting x
    go true now before rest = failing_is_known setting s.seen.event x (accepted_names_known setting earlier s.seen.event is.1) now
    go false now before rest = rest (before refl)

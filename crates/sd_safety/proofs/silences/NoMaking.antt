-- No accepted event makes a device that is up and a member of the plan in force.
use Rattle.std.specs.Prelude.{◌≡◌, ℕ, Bool, true, false, ◌&&◌, ◌||◌, List, nat_eq, Option, Some, None, refl}
use Rattle.std.proofs.Common.{subst}
use Rattle.std.proofs.lemmas.Bool.{and_from, or_left, or_parts, or_from, eqb-true, false_from_ne_true}
use Rattle.sd_num.specs.Lists.{map_or, same_number}
use Rattle.sd_plan.specs.Plans.{is_member}
use Rattle.sd_history.specs.Admitted.{Admits}
use Rattle.sd_sched.specs.declared.Event.{Event}
use Rattle.sd_sched.specs.Events.{started, joined}
use Rattle.sd_history.specs.World.{Setting, makes, is_up, was_made, in_force, joined_in_window}
use Rattle.sd_history.specs.Steps.{Act, Makes, Step, seen_of}
use Rattle.sd_history.specs.Refusals.{started_twice}
use Rattle.sd_history.proofs.Clear.{clear}
use Rattle.sd_history.proofs.Shared.{up_made}
use Rattle.sd_safety.proofs.invariant.Sides.{not_both}
use Rattle.sd_safety.specs.messages.Stamping.{remakes}
use Rattle.sd_safety.specs.timers.Times.{makes_device}

-- the option is the number
named_by : (o : Option ℕ) (d : ℕ) (P : ℕ → Bool) → map_or o false P ≡ false → P d ≡ true → same_number o d ≡ false
named_by None d P none is = refl
named_by (Some e) d P none is = false_from_ne_true (nat_eq e d) (λ same. not_both (P d) is (subst (λ z. P z ≡ false) (eqb-true e d same) none))

pub not_made : (setting : Setting) (steps : List Step) (e : Event) (d : ℕ) → Admits setting steps e → is_up (seen_of steps) d ≡ true
    → is_member (in_force setting (seen_of steps)) d ≡ true → makes d e ≡ false
not_made setting steps e d none up member =
    let once : started_twice setting (seen_of steps) e ≡ false =
    (clear setting steps e none).started_once in
    let parts = or_parts (map_or (started e) false (was_made (seen_of steps))) _ once in
    or_from (same_number (started e) d) (same_number (joined e) d)
    (named_by (started e) d (was_made (seen_of steps)) parts.0 (up_made (seen_of steps) d up))
    (named_by (joined e) d (λ z. is_up (seen_of steps) z && (is_member (in_force setting (seen_of steps)) z || joined_in_window (seen_of steps) z)) parts.1
    (and_from (is_up (seen_of steps) d) _ up (or_left (is_member (in_force setting (seen_of steps)) d) (joined_in_window (seen_of steps) d) member)))

pub remakes_is : (d : ℕ) (act : Act) → remakes d act ≡ makes_device act d
remakes_is d (Makes m making) = refl
remakes_is d _ = refl
